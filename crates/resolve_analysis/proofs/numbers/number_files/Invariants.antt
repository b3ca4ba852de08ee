-- The files have their names, and those before the place their numbers.
use Rattle.std.proofs.Common.{◌≡◌, map}
use Rattle.resolve_analysis.specs.Numbered.{IsFileNumbered, IsSameFile, file_names}
use Rattle.resolve_analysis.proofs.Done.{HoldsBefore, IsDone}
use Rattle.resolve_analysis.proofs.numbers.number_files.Given as goal

abbrev pub invariant-loop-place : goal.invariant-loop-place
invariant-loop-place l = record {
  names : map file_names l.files.items ≡ map file_names l.initial.files.items;
  same : IsDone IsSameFile l.initial.files.items l.files.items l.place;
  numbers : HoldsBefore (IsFileNumbered l.all) l.files.items l.place;
}
