-- How many values parameters take.
use Rattle.std.proofs.Common.{◌≡◌, ℕ, zero, suc, ◌+◌, ◌-◌, ◌<◌, ◌≤◌, Bool, true, false, cond, List, [], ◌∷◌, take, length, get_or, Some, slice_get, refl, sym, ap, ◌∙◌, arith}
use Rattle.std.specs.List.{count_by}
use Rattle.tree_items.specs.Recipes.{is_variadic}
use Rattle.tree_items.specs.declared.recipe.Parameter.{Parameter}
use Rattle.resolve_recipes.specs.Counts.{is_open}

-- whether the last parameter takes all that remain
pub open_by_last : (parameters : List Parameter) (last : Parameter) → slice_get parameters (length parameters - 1) ≡ Some last → is_open parameters ≡ is_variadic last.kind
open_by_last [] last e = absurd (cc e)
open_by_last (p ∷ []) last e = let same : p ≡ last = cc e in ap (λ p. is_variadic p.kind) same
open_by_last (p ∷ q ∷ ps) last e =
    let next : length (p ∷ q ∷ ps) - 1 ≡ suc (length (q ∷ ps) - 1) = omega arith in
    open_by_last (q ∷ ps) last (ap (slice_get (p ∷ q ∷ ps)) (sym next) ∙ e)
