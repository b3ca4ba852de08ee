-- One more definition, and all of them.
use Rattle.std.proofs.Common.{sym, subst}
use Rattle.modules_definitions.specs.Keeping.{AreKept, IsRefused, memory}
use Rattle.modules_definitions.specs.Steps.{IsClashAfter, Step}
use Rattle.modules_definitions.proofs.Holding.{all_are_kept, all_clear, held_more, held_clash, held_all}
use Rattle.modules_definitions.proofs.Outcomes.{ok_gives, ok_says, err_gives}
use Rattle.modules_definitions.proofs.keep.kept.Goals as goal

pub loop-next-preserved : goal.loop-next-preserved
loop-next-preserved c =
    let keeper = c.loop-next.keeper in
    let new = c.add.new.self in
    held_more c.args.allowed c.args.definitions.now keeper.done.items new.done.items keeper.last new.last c.loop-next.next-index c.next-item.result c.requires c.loop-next-test.true c.loop-next.invariant
    (subst (λ next. Step c.args.allowed keeper.done.items keeper.last next new.done.items new.last) c.next-item.is c.in-Ok.ensures.step)

pub returns-in-Err-clause-refused : goal.returns-in-Err-clause-refused
returns-in-Err-clause-refused c =
    let keeper = c.loop-next.keeper in
    held_clash c.args.allowed c.args.definitions.now keeper.done.items keeper.last c.loop-next.next-index c.next-item.result c.in-Err.error c.loop-next-test.true c.loop-next.invariant
    (subst (λ next. IsClashAfter c.args.allowed keeper.last next c.in-Err.error) c.next-item.is c.in-Err.ensures.refused)

pub returns-clause-kept : goal.returns-clause-kept
returns-clause-kept c =
    let ds = c.args.definitions.now in
    let keeper = c.loop-next.keeper in
    ok_gives c.finish.result c.finish.ensures.kept (λ kept is. subst (AreKept ds) (sym is) (all_are_kept c.args.allowed ds keeper.done.items keeper.last (held_all c.args.allowed ds keeper.done.items keeper.last c.loop-next.next-index c.loop-next-test.false c.loop-next.invariant)))

pub returns-clause-clear : goal.returns-clause-clear
returns-clause-clear c =
    let ds = c.args.definitions.now in
    let keeper = c.loop-next.keeper in
    ok_says c.finish.result (all_clear c.args.allowed ds keeper.done.items keeper.last (held_all c.args.allowed ds keeper.done.items keeper.last c.loop-next.next-index c.loop-next-test.false c.loop-next.invariant))

pub returns-clause-refused : goal.returns-clause-refused
returns-clause-refused c = err_gives c.finish.result c.finish.ensures.memory (λ error is. subst (IsRefused c.args.allowed c.args.definitions.now) (sym is) memory)
