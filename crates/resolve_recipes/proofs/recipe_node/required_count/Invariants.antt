-- The count is that of the parameters before the place.
use Rattle.std.proofs.Common.{◌≡◌, ◌≤◌, take}
use Rattle.std.specs.List.{count_by}
use Rattle.resolve_recipes.specs.Counts.{is_required}
use Rattle.resolve_recipes.proofs.recipe_node.required_count.Given as goal

abbrev pub invariant-loop-place : goal.invariant-loop-place
invariant-loop-place l = (l.count ≡ count_by is_required (take l.place l.parameters)) × (l.count ≤ l.place)
