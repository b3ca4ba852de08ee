-- The number can only stand from `low` up to `high`, and what is left of the search has digits enough.
use Rattle.std.proofs.Common.{◌-◌, ◌+◌, ◌≤◌, length}
use Rattle.std.specs.Ordering.{nat_cmp}
use Rattle.just_value.specs.Searches.{digits}
use Rattle.just_value.proofs.Halves.{Narrowed}
use Rattle.just_value.proofs.Numbered.{numbers}
use Rattle.just_value.proofs.frame.Frame.position.Given as goal

abbrev pub invariant-loop-low : goal.invariant-loop-low
invariant-loop-low l = (l.steps.taken + digits (l.high - l.low) ≤ l.initial.steps.taken + digits (length l.self)) × Narrowed nat_cmp (numbers l.self) l.number l.low l.high

abbrev pub decreases-loop-low : goal.decreases-loop-low
decreases-loop-low l = l.high - l.low
