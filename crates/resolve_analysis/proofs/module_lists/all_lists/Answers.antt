-- One module more.
use Rattle.std.proofs.Common.{◌<◌, ◌∙◌, ap, arith, get_or, length}
use Rattle.resolve_analysis.specs.Lists.{kept_by, kept_in}
use Rattle.resolve_analysis.proofs.Mapped.{mapped_more}
use Rattle.resolve_analysis.proofs.module_lists.all_lists.Goals as goal

pub loop-node-preserved : goal.loop-node-preserved
loop-node-preserved c =
    let nodes = c.args.compilation.now.modules.items in
    let i = c.loop-node.node-index in
    let x = c.node-item.result in
    let lt : i < length nodes = omega (arith, c.loop-node-test.true, ap length c.deref-node-items.ensures.value) in
    mapped_more kept_in (kept_by c.args.compilation.now) nodes i x c.loop-node.all.items c.push.new.self.items c.in_ok-lists_of.field-0 lt
    (c.node-item.is ∙ ap (λ ns. get_or ns i x) c.deref-node-items.ensures.value) c.in_ok-push.ensures.items c.in_ok-lists_of.ensures c.loop-node.invariant
