-- The place stands between the two.
use Rattle.std.proofs.Common.{◌<◌, ◌≤◌, ℕ, ◌-◌, get_or}
use Rattle.just_value.proofs.blocks.block_of.Given as goal

abbrev pub invariant-loop-high : goal.invariant-loop-high
invariant-loop-high l = (l.low < l.high) × (l.high ≤ l.count) × ((d : ℕ) → get_or l.starts l.low d ≤ l.place) × ((d : ℕ) → l.high < l.count → l.place < get_or l.starts l.high d)

abbrev pub decreases-loop-high : goal.decreases-loop-high
decreases-loop-high l = l.high - l.low
