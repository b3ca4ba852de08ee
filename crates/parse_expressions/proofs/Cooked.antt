-- What a list and a call hold.
use Rattle.std.proofs.Common.{◌≡◌, ◌∙◌, ◌∷◌, map, ap, sym, rules}
use Rattle.std.proofs.lemmas.List.Folds.{flat_map-map}
use Rattle.std.specs.Global.{Vec}
use Rattle.std.specs.List.{flat_map}
use Rattle.just_text.specs.declared.name.Name.{Name}
use Rattle.just_text.specs.declared.token.Token.{Token}
use Rattle.tree_expressions.specs.declared.expression.Expression.{Expression, Call, List as ListOf, the_lemmas}
use Rattle.tree_expressions.specs.Shape.{listing, shape_of, shapes_of}
use Rattle.parse_expressions.specs.Literals.{Origin, AreCooked, IsCooked, cooked_in, held_by, of_call}

pub listing_cooked : (x : Origin) (es : Vec Expression) (token : Token) → AreCooked x es.items → IsCooked x (ListOf es token)
listing_cooked x es token cooked =
    let shape : shape_of (ListOf es token) ≡ listing (shapes_of es.items) = search (rules, the_lemmas) in
    let held : held_by (ListOf es token) ≡ flat_map (λ inside. inside) (map held_by es.items) = search (rules, the_lemmas) in
    held ∙ flat_map-map (λ inside. inside) held_by es.items ∙ cooked ∙ sym (ap (cooked_in x) shape)

pub call_held : (es : Vec Expression) (name : Name) → held_by (Call name es) ≡ of_call name.token.path.now ∷ flat_map held_by es.items
call_held es name =
    let held : held_by (Call name es) ≡ of_call name.token.path.now ∷ flat_map (λ inside. inside) (map held_by es.items) = search (rules, the_lemmas) in
    held ∙ ap (λ held. of_call name.token.path.now ∷ held) (flat_map-map (λ inside. inside) held_by es.items)
