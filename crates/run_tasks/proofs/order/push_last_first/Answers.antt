-- One more waits.
use Rattle.std.proofs.Common.{◌<◌, ◌-◌, arith, length}
use Rattle.std.proofs.lemmas.List.{get_or_default}
use Rattle.run_tasks.proofs.Prepared.Waiting.{all_wait, none_wait, one_waits}
use Rattle.run_tasks.proofs.order.push_last_first.Goals as goal

pub returns : goal.returns
returns c = all_wait c.args.modules.now c.args.open.now.items c.loop-count.count c.loop-count.open.items c.loop-count-test.false c.loop-count.invariant

pub loop-count-init : goal.loop-count-init
loop-count-init c = none_wait c.args.modules.now c.args.open.now.items

pub loop-count-preserved : goal.loop-count-preserved
loop-count-preserved c =
    let lt = c.loop-count-test.true in
    let within : length c.args.modules.now - 1 - c.loop-count.count < length c.args.modules.now = omega (arith, lt) in
    one_waits c.args.modules.now c.args.open.now.items c.loop-count.count c.loop-count.open.items c.push.new.self.items _ lt (get_or_default c.args.modules.now (length c.args.modules.now - 1 - c.loop-count.count) 0 _ within) c.in_ok-push.ensures.items c.loop-count.invariant
