-- The numbers at the places before this one are there, if they are marked.
use Rattle.resolve_analysis.specs.Lists.{numbers_in}
use Rattle.resolve_analysis.specs.Unions.{Has, IsUnion}
use Rattle.resolve_analysis.proofs.Marking.{MarkedBelow}
use Rattle.resolve_analysis.proofs.marked.add_all.Given as goal

abbrev pub invariant-loop-place : goal.invariant-loop-place
invariant-loop-place l = IsUnion (Has l.initial.numbers) (MarkedBelow l.place (numbers_in l.assignments) l.marks) (Has l.numbers)
