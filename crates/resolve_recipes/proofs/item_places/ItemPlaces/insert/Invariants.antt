-- Rows that are put there have no entry.
use Rattle.std.proofs.Common.{◌≡◌, ℕ, ◌+◌, ◌-◌, length}
use Rattle.resolve_recipes.specs.Standing.{row_in}
use Rattle.resolve_recipes.proofs.item_places.ItemPlaces.insert.Given as goal

abbrev pub invariant-loop-self : goal.invariant-loop-self
invariant-loop-self l = (file : ℕ) → row_in l.self.files.items file ≡ row_in l.initial.self.files.items file

abbrev pub decreases-loop-self : goal.decreases-loop-self
decreases-loop-self l = l.item.file + 1 - length l.self.files.items
