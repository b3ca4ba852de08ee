-- With the variables to come, the list has those at all places.
use Rattle.std.proofs.Common.{◌≡◌, ◌++◌, drop}
use Rattle.resolve_analysis.specs.Lists.{variables_at, variables_in}
use Rattle.resolve_analysis.proofs.module_lists.assignments.Given as goal

abbrev pub invariant-loop-place : goal.invariant-loop-place
invariant-loop-place l = variables_in l.list.items ++ variables_at l.compilation (drop l.place-index l.places) ≡ variables_at l.compilation l.places
