-- A flag more.
use Rattle.std.proofs.Common.{◌≡◌, ◌<◌, ◌++◌, ◌∷◌, [], ◌∙◌, ap, arith, get_or, length, sym, take}
use Rattle.std.specs.Prelude.{is_some}
use Rattle.std.specs.BTreeMap.{get_by}
use Rattle.std.specs.Ordering.{nat_cmp}
use Rattle.std.proofs.lemmas.List.{map_push, take_more}
use Rattle.tree_expressions.specs.declared.expression.Expression.{Expression}
use Rattle.tree_items.specs.declared.item.Binding.{Binding}
use Rattle.evaluate_context.specs.declared.context.AssignmentRef.{AssignmentRef}
use Rattle.resolve_analysis.specs.Lists.{variables_in}
use Rattle.resolve_analysis.specs.Reads.{overridden_by}
use Rattle.resolve_analysis.proofs.module_reads.overridden.Goals as goal

pub loop-lent-preserved : goal.loop-lent-preserved
loop-lent-preserved c =
    let list = c.args.lists.now.assignments.items in
    let i = c.loop-lent.lent-index in
    let x = c.lent-item.result in
    let lt : i < length list = omega (arith, c.loop-lent-test.true, ap length c.deref-lent-items.ensures.value) in
    let is : x ≡ get_or list i x = c.lent-item.is ∙ ap (λ ls. get_or ls i x) c.deref-lent-items.ensures.value in
    c.in_ok-push.ensures.items
    ∙ ap (λ fs. fs ++ c.contains_key.result ∷ []) c.loop-lent.invariant
    ∙ ap (λ b. overridden_by c.args.overrides.now (variables_in (take i list)) ++ b ∷ []) (c.contains_key.ensures ∙ ap (λ (lent : AssignmentRef). is_some (get_by (nat_cmp lent.assignment.now.number) c.args.overrides.now)) is)
    ∙ sym
    (ap (λ ls. overridden_by c.args.overrides.now (variables_in ls)) (take_more list i x lt)
    ∙ ap (overridden_by c.args.overrides.now) (map_push (λ (lent : AssignmentRef). lent.assignment.now) (take i list) (get_or list i x))
    ∙ map_push (λ (v : Binding Expression). is_some (get_by (nat_cmp v.number) c.args.overrides.now)) (variables_in (take i list)) (get_or list i x).assignment.now)
