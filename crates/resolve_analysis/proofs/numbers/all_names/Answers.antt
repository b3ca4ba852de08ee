-- One module more.
use Rattle.std.proofs.Common.{◌<◌, ◌∙◌, ap, arith, get_or, length}
use Rattle.resolve_analysis.specs.Bound.{AreNamesOf}
use Rattle.resolve_analysis.proofs.Named.{contexts_more}
use Rattle.resolve_analysis.proofs.numbers.all_names.Goals as goal

pub loop-node-preserved : goal.loop-node-preserved
loop-node-preserved c =
    let nodes = c.args.compilation.now.modules.items in
    let i = c.loop-node.node-index in
    let x = c.node-item.result in
    let lt : i < length nodes = omega (arith, c.loop-node-test.true, ap length c.deref-node-items.ensures.value) in
    contexts_more (AreNamesOf c.args.compilation.now) nodes i x c.loop-node.all.items c.push.new.self.items c.in_ok-module_names.field-0 lt
    (c.node-item.is ∙ ap (λ ns. get_or ns i x) c.deref-node-items.ensures.value) c.in_ok-push.ensures.items c.loop-node.invariant c.in_ok-module_names.ensures
