-- With the recipes to come the nodes are those of the module.
use Rattle.std.proofs.Common.{◌≡◌, ◌++◌, drop, map}
use Rattle.std.specs.List.{filter_map}
use Rattle.resolve_recipes.specs.Nodes.{kept_at, kept_by, view}
use Rattle.resolve_recipes.proofs.recipe_node.add_nodes.Given as goal

abbrev pub invariant-loop-place : goal.invariant-loop-place
invariant-loop-place l =
    map view l.nodes.items ++ filter_map (kept_at l.compilation l.module) (drop l.place-index l.node.recipes.items) ≡ map view l.initial.nodes.items ++ kept_by l.compilation l.module l.node
