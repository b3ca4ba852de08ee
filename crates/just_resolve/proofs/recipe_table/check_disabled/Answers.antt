-- A module more, and the first that is refused.
use Rattle.std.proofs.Common.{◌<◌, ◌+◌, ◌-◌, ◌∙◌, arith, ap, length, sym}
use Rattle.std.specs.List.{range_with_len}
use Rattle.std.proofs.lemmas.Result.{err_from_is_err_and}
use Rattle.modules_compilation.specs.declared.module_node.ModuleNode.{ModuleNode}
use Rattle.resolve_recipes.specs.Refusals.{told}
use Rattle.resolve_analysis.proofs.Ranges.{range_more}
use Rattle.just_resolve.specs.Table.{disabled_of, disabled_refusal, first_of, module_refusal, refusal_at}
use Rattle.just_resolve.proofs.Gathering.{one_answers, one_passes}
use Rattle.just_resolve.proofs.Standing.{there}
use Rattle.just_resolve.proofs.recipe_table.check_disabled.Goals as goal

pub returns-in_err-check_module : goal.returns-in_err-check_module
returns-in_err-check_module c =
    let p = err_from_is_err_and c.from_residual.result c.from_residual.ensures.1 in
    let compilation = c.args.compilation.now in
    let resolver = c.args.resolver.now in
    let m = c.loop-module.module in
    let n = length compilation.modules.items in
    let lt : m < n = omega (arith, c.loop-module-test.true, ap length c.as_slice-modules.ensures.value) in
    let here = there compilation.modules.items c.as_slice-modules.result.now m c.index-modules-module.result c.as_slice-modules.ensures.value c.loop-module-test.true c.index-modules-module.is in
    rw (p.1, p.2) (λ all. sym (
    one_answers (module_refusal compilation resolver) m (range_with_len m (n - m)) (range_with_len (m + 1) (n - (m + 1))) (range_more m n lt)
    (told c.in_err-check_module.field-0.0) (disabled_refusal compilation resolver)
    (ap (λ node. first_of (refusal_at compilation resolver m) (disabled_of node)) here ∙ ap (λ (node : ModuleNode). first_of (refusal_at compilation resolver m) node.disabled.items) c.index-modules-module.is ∙ ap (first_of (refusal_at compilation resolver m)) (sym c.as_slice-disabled.ensures.value) ∙ sym (c.in_err-check_module.ensures all))
    (c.loop-module.invariant all)))

pub loop-module-preserved : goal.loop-module-preserved
loop-module-preserved c all =
    let compilation = c.args.compilation.now in
    let resolver = c.args.resolver.now in
    let m = c.loop-module.module in
    let n = length compilation.modules.items in
    let lt : m < n = omega (arith, c.loop-module-test.true, ap length c.as_slice-modules.ensures.value) in
    let here = there compilation.modules.items c.as_slice-modules.result.now m c.index-modules-module.result c.as_slice-modules.ensures.value c.loop-module-test.true c.index-modules-module.is in
    one_passes (module_refusal compilation resolver) m (range_with_len m (n - m)) (range_with_len (m + 1) (n - (m + 1))) (range_more m n lt)
    (ap (λ node. first_of (refusal_at compilation resolver m) (disabled_of node)) here ∙ ap (λ (node : ModuleNode). first_of (refusal_at compilation resolver m) node.disabled.items) c.index-modules-module.is ∙ ap (first_of (refusal_at compilation resolver m)) (sym c.as_slice-disabled.ensures.value) ∙ sym (c.in_ok-check_module.ensures all))
    ∙ c.loop-module.invariant all
