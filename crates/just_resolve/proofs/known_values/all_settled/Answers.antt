-- The settings of a module more.
use Rattle.std.proofs.Common.{◌≡◌, ◌∙◌, ℕ, ap, length, refl, subst, sym}
use Rattle.std.specs.Global.{Vec}
use Rattle.std.proofs.lemmas.Option.{same_Some, slice_get_read}
use Rattle.std.proofs.lemmas.Result.{err_from_is_err_and}
use Rattle.modules_compilation.specs.declared.module_node.ModuleNode.{ModuleNode}
use Rattle.resolve_analysis.specs.declared.module_lists.ModuleLists.{ModuleLists}
use Rattle.resolve_analysis.specs.declared.module_reads.ModuleReads.{ModuleReads}
use Rattle.just_resolve.specs.Settling.{AreSettled, AreSettledAt}
use Rattle.just_resolve.proofs.Pairing.{one_each}
use Rattle.just_resolve.proofs.Borrowed.{at_module, not_at_module}
use Rattle.just_resolve.proofs.Standing.{there}
use Rattle.just_resolve.proofs.known_values.all_settled.Goals as goal

pub returns-in_err-settled-clause-refused : goal.returns-in_err-settled-clause-refused
returns-in_err-settled-clause-refused c =
    let p = err_from_is_err_and c.from_residual.result c.from_residual.ensures.1 in
    let modules = c.args.compilation.now.modules.items in
    let all_lists = c.args.lists.now in
    let all_reads = c.args.reads.now in
    let orders = c.args.orders.now in
    let m = c.loop-module.module in
    let x = c.index-modules-module.result in
    let order = c.in-Some-get-2.order.now in
    rw (p.1, p.2) (λ some. record {
      place = m;
      node = x;
      lists = c.in-Some.lists.now;
      reads = c.in-Some-get.reads.now;
      order = order;
      at = record {
        node_there = there modules c.as_slice-modules.result.now m x c.as_slice-modules.ensures.value c.loop-module-test.true c.index-modules-module.is;
        lists_there = slice_get_read all_lists (length all_lists) m c.in-Some.lists.now refl c.in-Some.ensures.lookup.3.0 c.in-Some.ensures.lookup.1;
        reads_there = slice_get_read all_reads (length all_reads) m c.in-Some-get.reads.now refl c.in-Some-get.ensures.lookup.3.0 c.in-Some-get.ensures.lookup.1;
        order_there = slice_get_read orders (length orders) m order refl c.in-Some-get-2.ensures.lookup.3.0 c.in-Some-get-2.ensures.lookup.1;
      };
      unsettled = not_at_module c.args.compilation.now c.args.overrides.now c.args.constants.now c.in-Some.lists.now c.in-Some-get.reads.now x.sets.items order.items c.as_slice-sets.result.now c.as_slice-order.result.now (c.as_slice-sets.ensures.value ∙ ap (λ (node : ModuleNode). node.sets.items) (sym c.index-modules-module.is)) c.as_slice-order.ensures.value (c.in_err-settled.ensures.refused some);
    })

pub loop-module-preserved : goal.loop-module-preserved
loop-module-preserved c many =
    let compilation = c.args.compilation.now in
    let overrides = c.args.overrides.now in
    let constants = c.args.constants.now in
    let modules = compilation.modules.items in
    let all_lists = c.args.lists.now in
    let all_reads = c.args.reads.now in
    let orders = c.args.orders.now in
    let m = c.loop-module.module in
    let x = c.index-modules-module.result in
    let l = c.in-Some.lists.now in
    let r = c.in-Some-get.reads.now in
    let o = c.in-Some-get-2.order.now in
    let settings = c.in_ok-settled.field-0 in
    let base = at_module compilation overrides constants l r x.sets.items o.items c.as_slice-sets.result.now c.as_slice-order.result.now (c.as_slice-sets.ensures.value ∙ ap (λ (node : ModuleNode). node.sets.items) (sym c.index-modules-module.is)) c.as_slice-order.ensures.value c.in_ok-settled.ensures.settled in
    one_each (AreSettledAt compilation all_lists all_reads orders overrides constants) m c.loop-module.all.items c.push.new.self.items settings c.in_ok-push.ensures.items
    (λ node lists reads order at.
    let node_is : x ≡ node = same_Some x node (sym (there modules c.as_slice-modules.result.now m x c.as_slice-modules.ensures.value c.loop-module-test.true c.index-modules-module.is) ∙ at.node_there) in
    let lists_are : l ≡ lists = same_Some l lists (sym (slice_get_read all_lists (length all_lists) m l refl c.in-Some.ensures.lookup.3.0 c.in-Some.ensures.lookup.1) ∙ at.lists_there) in
    let reads_are : r ≡ reads = same_Some r reads (sym (slice_get_read all_reads (length all_reads) m r refl c.in-Some-get.ensures.lookup.3.0 c.in-Some-get.ensures.lookup.1) ∙ at.reads_there) in
    let order_is : o ≡ order = same_Some o order (sym (slice_get_read orders (length orders) m o refl c.in-Some-get-2.ensures.lookup.3.0 c.in-Some-get-2.ensures.lookup.1) ∙ at.order_there) in
    subst (λ (n : ModuleNode). AreSettled constants overrides compilation n.sets.items lists reads order.items settings) node_is
    (subst (λ (ls : ModuleLists). AreSettled constants overrides compilation x.sets.items ls reads order.items settings) lists_are
    (subst (λ (rs : ModuleReads). AreSettled constants overrides compilation x.sets.items l rs order.items settings) reads_are
    (subst (λ (os : Vec ℕ). AreSettled constants overrides compilation x.sets.items l r os.items settings) order_is base))))
    (c.loop-module.invariant many)
