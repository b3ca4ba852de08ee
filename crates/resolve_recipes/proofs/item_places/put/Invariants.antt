-- A row that grows has the entries that it had.
use Rattle.std.proofs.Common.{◌≡◌, ℕ, ◌+◌, ◌-◌, length}
use Rattle.resolve_recipes.specs.Standing.{entry_in}
use Rattle.resolve_recipes.proofs.item_places.put.Given as goal

abbrev pub invariant-loop-row : goal.invariant-loop-row
invariant-loop-row l = (other : ℕ) → entry_in l.row.items other ≡ entry_in l.initial.row.items other

abbrev pub decreases-loop-row : goal.decreases-loop-row
decreases-loop-row l = l.item + 1 - length l.row.items
