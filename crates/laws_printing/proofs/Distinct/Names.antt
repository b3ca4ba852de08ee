-- Names that differ stand at different places, and a parameter that takes all values that remain is the last one.
use Rattle.std.proofs.Common.{◌≡◌, ℕ, zero, suc, true, List, [], ◌∷◌, Some, refl, sym, ap, ◌∙◌, arith, length, subst}
use Rattle.std.specs.Prelude.{slice_get, ◌≢◌}
use Rattle.std.specs.List.{IsAmong}
use Rattle.std.proofs.lemmas.Option.{none-some, same_Some, slice_get_within, get_or_from_slice_get}
use Rattle.just_text.specs.Tokens.{Word}
use Rattle.tree_items.specs.declared.recipe.ParameterKind.{ParameterKind}
use Rattle.tree_items.specs.declared.recipe.ParameterKind.TheVariants.{Plus, Singular, Star}
use Rattle.tree_items.specs.Recipes.{ParameterShape, is_variadic}
use Rattle.parse_expressions.specs.Literals.{Expansion}
use Rattle.parse_recipes.specs.Headers.{AreDistinct, AreParameters}
use Rattle.laws_printing.specs.Distinct.Distinct.{AreApartNames, IsVariadicLast}

-- what stands at a place of the list is among it
among_at : (names : List (List ℕ)) (i : ℕ) (a : List ℕ) → slice_get names i ≡ Some a → IsAmong names a
among_at names i a e = (i, (slice_get_within names i a e, sym (get_or_from_slice_get names i a a e)))

pub distinct_apart : (names : List (List ℕ)) → AreDistinct names → AreApartNames names
distinct_apart [] differ i j a e f = absurd (none-some a e)
distinct_apart (name ∷ names) differ zero zero a e f = refl
distinct_apart (name ∷ names) differ zero (suc j) a e f = absurd (differ.0 (subst (IsAmong names) (sym (same_Some name a e)) (among_at names j a f)))
distinct_apart (name ∷ names) differ (suc i) zero a e f = absurd (differ.0 (subst (IsAmong names) (sym (same_Some name a f)) (among_at names i a e)))
distinct_apart (name ∷ names) differ (suc i) (suc j) a e f = ap (λ k. suc k) (distinct_apart names differ.1 i j a e f)

-- a parameter that takes all values that remain is no singular one
not_singular : (kind : ParameterKind) → is_variadic kind ≡ true → kind ≢ Singular
not_singular Plus is e = absurd (cc e)
not_singular Singular is e = absurd (cc is)
not_singular Star is e = absurd (cc e)

pub variadic_last : (expansion : Expansion) (parameters : List ParameterShape) (words rest : List Word) → AreParameters expansion parameters words rest → IsVariadicLast parameters
variadic_last expansion [] words rest are i p e is = absurd (none-some p e)
variadic_last expansion (q ∷ qs) words rest are zero p e is =
    ap (λ (xs : List ParameterShape). length (q ∷ xs)) (sym (are.3 (not_singular q.kind (ap (λ (x : ParameterShape). is_variadic x.kind) (same_Some q p e) ∙ is))))
variadic_last expansion (q ∷ qs) words rest are (suc i) p e is = let l = variadic_last expansion qs are.0 rest are.2 i p e is in omega (arith, l)
