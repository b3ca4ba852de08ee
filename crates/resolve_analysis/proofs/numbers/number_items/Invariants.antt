-- The items have their names, and those before the place their numbers.
use Rattle.std.proofs.Common.{◌≡◌}
use Rattle.tree_items.specs.Contexts.{number_in}
use Rattle.resolve_references.specs.Seen.{HaveNumbers}
use Rattle.resolve_analysis.specs.Numbered.{IsSameItem, names_of}
use Rattle.resolve_analysis.proofs.Done.{HoldsBefore, IsDone}
use Rattle.resolve_analysis.proofs.numbers.number_items.Given as goal

abbrev pub invariant-loop-place : goal.invariant-loop-place
invariant-loop-place l = record {
  names : names_of l.items.items ≡ names_of l.initial.items.items;
  same : IsDone IsSameItem l.initial.items.items l.items.items l.place;
  numbers : HoldsBefore (HaveNumbers (number_in l.names)) l.items.items l.place;
}
