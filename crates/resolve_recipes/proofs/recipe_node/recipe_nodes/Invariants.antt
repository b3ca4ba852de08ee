-- With those of the modules to come the nodes are those of all modules.
use Rattle.std.proofs.Common.{◌≡◌, ◌++◌, drop, map}
use Rattle.resolve_recipes.specs.Nodes.{all_kept, kept_from, view}
use Rattle.resolve_recipes.proofs.recipe_node.recipe_nodes.Given as goal

abbrev pub invariant-loop-module : goal.invariant-loop-module
invariant-loop-module l = map view l.nodes.items ++ kept_from l.compilation l.module (drop l.module l.compilation.modules.items) ≡ all_kept l.compilation
