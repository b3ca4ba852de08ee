-- With the recipes to come, the recipes are those of the order.
use Rattle.std.proofs.Common.{◌≡◌, drop, map}
use Rattle.resolve_order.specs.Needs.{rows}
use Rattle.resolve_recipes.specs.Nodes.{view}
use Rattle.just_resolve.specs.Gathered.{all_before}
use Rattle.just_resolve.specs.Recipes.{resolved_in, seen}
use Rattle.just_resolve.proofs.recipe_table.recipes_in_order.Given as goal

abbrev pub invariant-loop-place : goal.invariant-loop-place
invariant-loop-place l = all_before (map seen l.recipes.items) (resolved_in (map view l.nodes) l.reads (rows l.needs) l.ranks (drop l.place-index l.order)) ≡ resolved_in (map view l.nodes) l.reads (rows l.needs) l.ranks l.order
