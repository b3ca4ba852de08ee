-- The rows are those of the recipes before the place.
use Rattle.std.proofs.Common.{◌≡◌, map, take}
use Rattle.resolve_order.specs.Needs.{rows}
use Rattle.resolve_analysis.specs.Opening.{needs_of}
use Rattle.resolve_analysis.proofs.opening.recipe_graph.Given as goal

abbrev pub invariant-loop-recipe : goal.invariant-loop-recipe
invariant-loop-recipe l = rows l.graph.items ≡ map (needs_of l.no_dependencies) (take l.recipe-index l.recipes)
