-- What is bound in a frame are bindings of parameters, from an empty frame on.
use Rattle.std.proofs.Common.{◌≡◌, ℕ, ◌==◌, Bool, true, false, cond, List, Option, Some, None, [], ◌∷◌, arith, refl, sym, subst}
use Rattle.std.proofs.lemmas.Bool.Decides.{nat_tests}
use Rattle.std.specs.Prelude.{IfSome}
use Rattle.std.specs.List.{Contains}
use Rattle.std.specs.List.Sorted.{IsStrictlySortedBy}
use Rattle.std.specs.Option.{option_map}
use Rattle.just_value.specs.Frames.{BoundRow, ByNumber, Rebinds, bound_in, value_binding}
use Rattle.tree_items.specs.declared.recipe.Parameter.{Parameter}
use Rattle.meaning_dialogues.specs.Calls.{HasValues, empty}
use Rattle.meaning_dialogues.specs.Evaluation.{Value}
use Rattle.evaluate_variables.specs.Given.{HasRowsOf, IsRowOf}

-- in a frame without a value nothing is bound
pub no_rows : (parameters : List Parameter) (own : List BoundRow) → HasValues own empty → HasRowsOf parameters own
unfolding IsStrictlySortedBy
no_rows parameters own none = record { at = λ number. by_binding (bound_in own number) (none.at number); sorted = by_rows own none }
  where
    by_binding : (found : Option BoundRow) → option_map (λ binding. binding.value) found ≡ None → IfSome found (IsRowOf parameters)
    by_binding None e = tt
    by_binding (Some row) e = absurd (cc e)

    by_rows : (rows : List BoundRow) → HasValues rows empty → ByNumber rows
    by_rows [] h = tt
    by_rows (row ∷ rows) h = absurd (grind (arith, nat_tests, h.at row.number))

-- one of the parameters is bound more
pub more_rows : (parameters : List Parameter) (old : List BoundRow) (p : Parameter) (value : Value) (new : List BoundRow) → HasRowsOf parameters old → Contains parameters p → Rebinds old (value_binding p.name p.number p.export value) new → ByNumber new → HasRowsOf parameters new
more_rows parameters old p value new has one binds sorted = record {
  at = λ number. subst (λ found. IfSome found (IsRowOf parameters)) (sym (binds number)) (by_number number (number == p.number));
  sorted = sorted;
}
  where
    by_number : (number : ℕ) (same : Bool) → IfSome (cond same (Some (value_binding p.name p.number p.export value)) (bound_in old number)) (IsRowOf parameters)
    by_number number true = (p, one, refl)
    by_number number false = has.at number
