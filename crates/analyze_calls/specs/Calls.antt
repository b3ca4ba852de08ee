-- Calls as contracts see them.
use Rattle.std.specs.Prelude.{ℕ, Bool, List, map, ◌==◌, ◌&&◌}
use Rattle.std.specs.Cmp.Lexicographic.{pointwise}
use Rattle.just_value.specs.Order.{values_eq}
use Rattle.analyze_calls.specs.declared.call.Call.{Call}

-- a recipe by its place, and the groups of its parameters
pub record CallRow : Type 0 where
  pub recipe : ℕ
  pub groups : List (List (List ℕ))

abbrev pub row_of : Call → CallRow
row_of call = record { recipe = call.recipe; groups = call.groups.items }

abbrev pub rows : List Call → List CallRow
rows calls = map row_of calls

-- one recipe with equal groups: another split of the same text is another call
abbrev pub same_call : CallRow → CallRow → Bool
same_call a b = (a.recipe == b.recipe) && pointwise values_eq a.groups b.groups
