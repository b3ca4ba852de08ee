-- With the variables to come, the places are those of all.
use Rattle.std.proofs.Common.{◌≡◌, ◌++◌, drop}
use Rattle.resolve_analysis.specs.Opening.{wanted_from}
use Rattle.resolve_analysis.proofs.opening.add_wanted.Given as goal

abbrev pub invariant-loop-place : goal.invariant-loop-place
invariant-loop-place l = l.places.items ++ wanted_from l.exports_all l.place (drop l.place l.assignments) ≡ l.initial.places.items ++ wanted_from l.exports_all 0 l.assignments
