-- The first that waits opens.
use Rattle.modules_compilation.specs.declared.module_node.ModuleNode.{ModuleNode}
use Rattle.run_tasks.proofs.Prepared.Waiting.{all_open, empty_is, next_opens, no_submodules, none_open, root_waits, submodules_wait}
use Rattle.std.proofs.Common.{ap, ◌∙◌, ◌++◌, ◌∷◌, [], arith, reverse, sym}
use Rattle.run_tasks.proofs.order.opening_order.Goals.{then-next-modules+in_ok-push_last_first, else-next-modules}
use Rattle.run_tasks.proofs.order.opening_order.Goals as goal

pub returns : goal.returns
returns c = all_open c.args.modules.now c.loop.counter c.loop.order.items c.loop.open.items c.loop-test.false c.loop.invariant

pub returns-in_default : goal.returns-in_default
returns-in_default c =
    let many = c.in_default.ensures.cases.0 in
    let ok = c.loop.open.ok in
    none_open c.args.modules.now c.loop.counter c.loop.order.items c.loop.open.items (empty_is c.loop.open.items (omega (arith, many, ok))) c.loop.invariant

pub loop-init : goal.loop-init
loop-init c = root_waits c.args.modules.now _ _ c.new-order.ensures.items (c.in_ok-push.ensures.items ∙ ap (λ l. l ++ 0 ∷ []) c.new-open.ensures.items)

pub loop-preserved : goal.loop-preserved
loop-preserved c = elim c.if-next-modules.branch [
  | then-next-modules+in_ok-push_last_first w ↦ rw w.open-is (next_opens c.args.modules.now c.loop.counter c.loop.order.items _ c.loop.open.items c.pop.new.self.items w.push_last_first.new.open.items c.in-Some.next c.loop-test.true c.in-Some.ensures.items c.in_ok-push-2.ensures.items
      (submodules_wait c.args.modules.now c.in-Some.next w.index-modules-next.result c.pop.new.self.items w.push_last_first.new.open.items w.if-next-modules.true w.index-modules-next.is (w.in_ok-push_last_first.ensures ∙ ap (λ ms. ms ++ reverse c.pop.new.self.items) w.as_slice.ensures.value ∙ ap (λ (node : ModuleNode). node.submodules.items ++ reverse c.pop.new.self.items) (sym w.index-modules-next.is))) c.loop.invariant)
  | else-next-modules w ↦ rw w.open-is (next_opens c.args.modules.now c.loop.counter c.loop.order.items _ c.loop.open.items c.pop.new.self.items _ c.in-Some.next c.loop-test.true c.in-Some.ensures.items c.in_ok-push-2.ensures.items
      (no_submodules c.args.modules.now c.in-Some.next c.pop.new.self.items w.if-next-modules.false) c.loop.invariant)
]
