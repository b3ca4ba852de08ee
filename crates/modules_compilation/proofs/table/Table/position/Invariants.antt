-- The key can only stand from `low` up to `high`, and what is left of the search has digits enough.
use Rattle.std.proofs.Common.{◌-◌, ◌+◌, ◌≤◌, length}
use Rattle.std.specs.Map.{keys_of}
use Rattle.modules_compilation.specs.Tables.{text_cmp}
use Rattle.just_value.specs.Searches.{digits}
use Rattle.just_value.proofs.Halves.{Narrowed}
use Rattle.modules_compilation.proofs.table.Table.position.Given as goal

abbrev pub invariant-loop-low : goal.invariant-loop-low
invariant-loop-low g l = (l.steps.taken + digits (l.high - l.low) ≤ l.initial.steps.taken + digits (length l.self)) × Narrowed text_cmp (keys_of l.self) l.key l.low l.high

abbrev pub decreases-loop-low : goal.decreases-loop-low
decreases-loop-low g l = l.high - l.low
