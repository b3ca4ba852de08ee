-- What an expression has where its parts lie in a row or may be missing.
use Rattle.std.proofs.Common.{◌≡◌, ◌∙◌, ◌∷◌, ◌++◌, length, map, Option, Some, None, refl, rules, append_assoc}
use Rattle.std.proofs.lemmas.List.Folds.{flat_map-map}
use Rattle.std.proofs.lemmas.List.{length-map}
use Rattle.std.specs.Global.{Box, Vec}
use Rattle.std.specs.List.{flat_map}
use Rattle.tree_expressions.specs.declared.string_literal.StringLiteral.{StringLiteral}
use Rattle.just_text.specs.declared.name.Name.{Name}
use Rattle.just_text.specs.declared.token.Token.{Token}
use Rattle.tree_expressions.specs.declared.expression.Expression.{Expression, Call as CallOf, Conditional, FormatString, Join, List as ListOf, the_lemmas}
use Rattle.resolve_references.specs.declared.references.Reference.TheVariants.{Call}
use Rattle.resolve_references.specs.References.{references_of, references_if_there, references_in_interpolation}

pub call_has : (name : Name) (es : Vec Expression) → references_of (CallOf name es) ≡ Call name (length es.items) ∷ flat_map references_of es.items
call_has name es =
    let held : references_of (CallOf name es) ≡ Call name (length (map references_of es.items)) ∷ flat_map (λ e. e) (map references_of es.items) = search (rules, the_lemmas) in
    rw (held, length-map, flat_map-map) refl

pub listing_has : (es : Vec Expression) (token : Token) → references_of (ListOf es token) ≡ flat_map references_of es.items
listing_has es token =
    let held : references_of (ListOf es token) ≡ flat_map (λ e. e) (map references_of es.items) = search (rules, the_lemmas) in
    held ∙ flat_map-map (λ e. e) references_of es.items

abbrev beside : {A : Type 0} → (Expression → A) → (Expression × StringLiteral) → A × StringLiteral
beside f interpolation = (f interpolation.0, interpolation.1)

pub interpolations_have : (start : StringLiteral) (es : Vec (Expression × StringLiteral)) → references_of (FormatString start es) ≡ flat_map references_in_interpolation es.items
interpolations_have start es =
    let held : references_of (FormatString start es) ≡ flat_map (λ e. e.0) (map (beside references_of) es.items) = search (rules, the_lemmas) in
    held ∙ flat_map-map (λ e. e.0) (beside references_of) es.items

pub conditional_has : (c t : Box Expression) (o : Option (Box Expression)) → references_of (Conditional c t o) ≡ (references_of c.value ++ references_of t.value) ++ references_if_there o
conditional_has c t None =
    let held : references_of (Conditional c t None) ≡ references_of c.value ++ references_of t.value = search (rules, the_lemmas) in
    rw held (search rules)
conditional_has c t (Some o) =
    let held : references_of (Conditional c t (Some o)) ≡ references_of c.value ++ references_of t.value ++ references_of o.value = search (rules, the_lemmas) in
    rw (held, append_assoc) refl

pub join_has : (l : Option (Box Expression)) (token : Token) (r : Box Expression) → references_of (Join l token r) ≡ references_if_there l ++ references_of r.value
join_has None token r = search (rules, the_lemmas)
join_has (Some l) token r = search (rules, the_lemmas)
