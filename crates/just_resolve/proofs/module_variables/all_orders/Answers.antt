-- The order of a module more.
use Rattle.std.proofs.Common.{◌∙◌, length, refl, subst}
use Rattle.std.proofs.lemmas.Option.{get_or_from_slice_get, slice_get_read}
use Rattle.std.proofs.lemmas.Result.{err_from_is_err_and}
use Rattle.resolve_analysis.specs.declared.module_lists.ModuleLists.{ModuleLists}
use Rattle.resolve_analysis.specs.declared.module_reads.ModuleReads.{ModuleReads}
use Rattle.just_resolve.specs.Variables.{IsOrderAt, IsOrderOf}
use Rattle.just_resolve.proofs.Pairing.{one_each}
use Rattle.just_resolve.proofs.module_variables.all_orders.Goals as goal

pub returns-in_err-variables_in_order-clause-refused : goal.returns-in_err-variables_in_order-clause-refused
returns-in_err-variables_in_order-clause-refused c =
    let p = err_from_is_err_and c.from_residual.result c.from_residual.ensures.1 in
    let all = c.args.lists.now in
    let all_reads = c.args.reads.now in
    let place = c.loop-module.module in
    let x = c.index-lists-module.result in
    let r = c.in-Some.reads.now in
    rw (p.1, p.2) (λ some. record {
      place = place;
      lists = x;
      reads = r;
      here = slice_get_read all (length all) place x refl c.loop-module-test.true c.index-lists-module.is;
      read = slice_get_read all_reads (length all_reads) place r refl c.in-Some.ensures.lookup.3.0 c.in-Some.ensures.lookup.1;
      circular = c.in_err-variables_in_order.ensures.cycle some;
    })

pub loop-module-preserved : goal.loop-module-preserved
loop-module-preserved c many =
    let all = c.args.lists.now in
    let all_reads = c.args.reads.now in
    let place = c.loop-module.module in
    let x = c.index-lists-module.result in
    let r = c.in-Some.reads.now in
    let order = c.in_ok-variables_in_order.field-0 in
    one_each (IsOrderAt all all_reads) place c.loop-module.orders.items c.push.new.self.items order c.in_ok-push.ensures.items
    (λ lists reads here there.
    subst (λ (l : ModuleLists). IsOrderOf l reads order.items) (c.index-lists-module.is ∙ get_or_from_slice_get all place lists x here)
    (subst (λ (k : ModuleReads). IsOrderOf x k order.items) (c.in-Some.ensures.lookup.1 ∙ get_or_from_slice_get all_reads place reads r there) c.in_ok-variables_in_order.ensures.order))
    (c.loop-module.invariant many)
