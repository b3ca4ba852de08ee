-- With the names to come, the names are those of all places.
use Rattle.std.proofs.Common.{◌≡◌, ◌++◌, drop}
use Rattle.just_resolve.specs.Cycles.{variable_names}
use Rattle.just_resolve.proofs.cycles.variable_names.Given as goal

abbrev pub invariant-loop-place : goal.invariant-loop-place
invariant-loop-place l = l.names ++ variable_names l.variables (drop l.place-index l.places) ≡ variable_names l.variables l.places
