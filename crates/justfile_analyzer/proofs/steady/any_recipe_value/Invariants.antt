-- None of the recipes so far has such a parameter.
use Rattle.std.proofs.Common.{◌≡◌, false, take}
use Rattle.std.specs.List.{list_any}
use Rattle.justfile_analyzer.specs.Values.{value_in}
use Rattle.justfile_analyzer.proofs.steady.any_recipe_value.Given as goal

abbrev pub invariant-loop-resolved : goal.invariant-loop-resolved
invariant-loop-resolved l = list_any (value_in l.compilation) (take l.resolved-index l.recipes) ≡ false
