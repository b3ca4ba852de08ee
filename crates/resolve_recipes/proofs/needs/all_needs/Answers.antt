-- A row more, and the first recipe that has none.
use Rattle.std.proofs.Common.{ap, drop, map, ◌+◌, ◌∙◌, ◌∷◌, []}
use Rattle.std.proofs.lemmas.List.{map-append}
use Rattle.resolve_recipes.specs.Nodes.{view}
use Rattle.resolve_recipes.specs.Resolving.{all_needs, places_before}
use Rattle.resolve_recipes.proofs.Needing.{node_goes, node_stops}
use Rattle.resolve_recipes.proofs.needs.all_needs.Goals as goal

pub returns-in-Err-clause-err : goal.returns-in-Err-clause-err
returns-in-Err-clause-err c some all =
    node_stops c.args.compilation.now c.args.resolver.now c.args.nodes.now c.loop-node.node-index c.node-item.result _ (map (λ row. row.items) c.loop-node.all.items) c.loop-node-test.true c.node-item.is (c.in-Err.ensures.err some all) (c.loop-node.invariant all)

pub loop-node-preserved : goal.loop-node-preserved
loop-node-preserved c all =
    let rest = all_needs c.args.compilation.now c.args.resolver.now (map view (drop (c.loop-node.node-index + 1) c.args.nodes.now)) in
    ap (λ rows. places_before (map (λ row. row.items) rows) rest) c.in_ok-push-in-Ok.ensures.items
    ∙ ap (λ rows. places_before rows rest) (map-append (λ row. row.items) c.loop-node.all.items (c.in-Ok.needs ∷ []))
    ∙ node_goes c.args.compilation.now c.args.resolver.now c.args.nodes.now c.loop-node.node-index c.node-item.result c.in-Ok.needs.items (map (λ row. row.items) c.loop-node.all.items) c.loop-node-test.true c.node-item.is (c.in-Ok.ensures.ok all)
    ∙ c.loop-node.invariant all
