-- The counts are those of the recipes before the place.
use Rattle.std.proofs.Common.{◌≡◌, map, take}
use Rattle.resolve_recipes.specs.Counts.{count_of}
use Rattle.resolve_recipes.proofs.recipe_node.value_counts.Given as goal

abbrev pub invariant-loop-node : goal.invariant-loop-node
invariant-loop-node l = l.counts.items ≡ map (λ node. count_of node.recipe.now.parameters.items) (take l.node-index l.nodes)
