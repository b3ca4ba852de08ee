-- With the functions to come, the list has those at all places.
use Rattle.std.proofs.Common.{◌≡◌, ◌++◌, drop}
use Rattle.resolve_analysis.specs.Lists.{functions_at, functions_in}
use Rattle.resolve_analysis.proofs.module_lists.functions.Given as goal

abbrev pub invariant-loop-place : goal.invariant-loop-place
invariant-loop-place l = functions_in l.list.items ++ functions_at l.compilation (drop l.place-index l.places) ≡ functions_at l.compilation l.places
