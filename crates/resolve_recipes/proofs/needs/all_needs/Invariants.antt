-- With the rows of the recipes to come, the rows are those of all.
use Rattle.std.proofs.Common.{◌≡◌, drop, map}
use Rattle.resolve_recipes.specs.Named.{AllByName}
use Rattle.resolve_recipes.specs.Nodes.{view}
use Rattle.resolve_recipes.specs.Resolving.{all_needs, places_before}
use Rattle.resolve_recipes.proofs.needs.all_needs.Given as goal

abbrev pub invariant-loop-node : goal.invariant-loop-node
invariant-loop-node l =
    AllByName l.compilation → places_before (map (λ row. row.items) l.all.items) (all_needs l.compilation l.resolver (map view (drop l.node-index l.nodes))) ≡ all_needs l.compilation l.resolver (map view l.nodes)
