-- An induction over expressions.
use Rattle.std.proofs.Common.{◌≡◌, refl, sym, ◌∙◌, ap, ℕ, suc, List, [], ◌∷◌, ◌++◌, subst, map, length, Some, None}
use Rattle.std.proofs.lemmas.List.{map-append}
use Rattle.std.specs.List.{flat_map}
use Rattle.just_text.specs.Tokens.{lexeme}
use Rattle.tree_expressions.specs.declared.string_literal.StringLiteral.{StringLiteral}
use Rattle.tree_expressions.specs.declared.expression.Expression.{Expression, map-Expression}
use Rattle.tree_expressions.specs.declared.expression.Expression.TheOpen.{Expression-F}
use Rattle.tree_expressions.specs.declared.expression.Expression.TheFolds.{fold-roll-Expression, ind-Expression}
use Rattle.tree_expressions.specs.Shape.{Shape, shape_of, shape_step, shapes_from, interpolations_from}
use Rattle.resolve_references.specs.References.{references_of, references_step}
use Rattle.resolve_references.specs.declared.references.Reference.{Reference}
use Rattle.meaning_rules.specs.Naming.{Occurrence, a_call, count_of, occurrences, occurrences_in, occurrences_between}
use Rattle.laws_modules.specs.References.Occurrences.{occurrence_of, ReferencesAreOccurrences}

abbrev found_in : Expression → List Occurrence
found_in e = map occurrence_of (references_of e)

-- an expression of which it is known
abbrev Known : Type 0
Known = (e : Expression) × (found_in e ≡ occurrences (shape_of e))

both : (a b : List Reference) {c d : List Occurrence} → map occurrence_of a ≡ c → map occurrence_of b ≡ d → map occurrence_of (a ++ b) ≡ c ++ d
both a b {c} {d} p q = map-append occurrence_of a b ∙ ap (λ x. x ++ map occurrence_of b) p ∙ ap (λ x. c ++ x) q

pair : (l r : Known) → map occurrence_of (references_of l.0 ++ references_of r.0) ≡ occurrences (shape_of l.0) ++ occurrences (shape_of r.0)
pair l r = both (references_of l.0) (references_of r.0) l.1 r.1

called : (name : List ℕ) {n m : ℕ} {a b : List Occurrence} → n ≡ m → a ≡ b → a_call name n ∷ a ≡ a_call name m ∷ b
called name {n} {m} {a} {b} p q = ap (λ k. a_call name k ∷ a) p ∙ ap (λ xs. a_call name m ∷ xs) q

row : (es : List Known) → map occurrence_of (flat_map (λ e. e) (map references_of (map (λ e. e.0) es))) ≡ occurrences_in (shapes_from (map shape_of (map (λ e. e.0) es)))
unfolding occurrences occurrences_in occurrences_between
row [] = refl
row (e ∷ es) = both (references_of e.0) (flat_map (λ e. e) (map references_of (map (λ e. e.0) es))) e.1 (row es)

count : (es : List Known) → length (map references_of (map (λ e. e.0) es)) ≡ count_of (shapes_from (map shape_of (map (λ e. e.0) es)))
count [] = refl
count (e ∷ es) = ap suc (count es)

abbrev bare : (Known × StringLiteral) → Expression × StringLiteral
bare p = (p.0.0, p.1)

abbrev beside : {A : Type 0} → (Expression → A) → (Expression × StringLiteral) → A × StringLiteral
beside f p = (f p.0, p.1)

parts : (es : List (Known × StringLiteral)) → map occurrence_of (flat_map (λ (e : List Reference × StringLiteral). e.0) (map (beside references_of) (map bare es))) ≡ occurrences_between (interpolations_from (map (beside shape_of) (map bare es)))
unfolding occurrences occurrences_in occurrences_between
parts [] = refl
parts (e ∷ es) = both (references_of e.0.0) (flat_map (λ (e : List Reference × StringLiteral). e.0) (map (beside references_of) (map bare es))) e.0.1 (parts es)

level : (y : Expression-F Known) → map occurrence_of (references_step (map-Expression Expression (List Reference) references_of (map-Expression Known Expression (λ e. e.0) y))) ≡ occurrences (shape_step (map-Expression Expression Shape shape_of (map-Expression Known Expression (λ e. e.0) y)))
unfolding occurrences occurrences_in occurrences_between
level (Expression-F.And l r) = pair l.value r.value
level (Expression-F.Assert c None name) = c.value.1
level (Expression-F.Assert c (Some m) name) = pair c.value m.value
level (Expression-F.Backtick contents token) = refl
level (Expression-F.Call name es) = called (lexeme name.token) (count es.items) (row es.items)
level (Expression-F.Comparison l operator r token) = pair l.value r.value
level (Expression-F.Concatenation l token r) = pair l.value r.value
level (Expression-F.Conditional c t None) = pair c.value t.value
level (Expression-F.Conditional c t (Some o)) = both (references_of c.value.0 ++ references_of t.value.0) (references_of o.value.0) (pair c.value t.value) o.value.1
level (Expression-F.FormatString start es) = parts es.items
level (Expression-F.Group e) = e.value.1
level (Expression-F.Join None token r) = r.value.1
level (Expression-F.Join (Some l) token r) = pair l.value r.value
level (Expression-F.List es token) = row es.items
level (Expression-F.ListConcatenation l token r) = pair l.value r.value
level (Expression-F.Not e) = e.value.1
level (Expression-F.Or l r) = pair l.value r.value
level (Expression-F.StringLiteral s) = refl
level (Expression-F.Variable name number) = refl

pub references_are_occurrences : ReferencesAreOccurrences
references_are_occurrences = ind-Expression (λ e. found_in e ≡ occurrences (shape_of e)) (λ x y is.
    ap (map occurrence_of) (fold-roll-Expression (List Reference) references_step x)
    ∙ subst (λ z. map occurrence_of (references_step (map-Expression Expression (List Reference) references_of z)) ≡ occurrences (shape_step (map-Expression Expression Shape shape_of z))) is (level y)
    ∙ sym (ap occurrences (fold-roll-Expression Shape shape_step x)))
