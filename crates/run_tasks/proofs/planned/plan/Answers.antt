-- One recipe more.
use Rattle.std.proofs.Common.{refl, sym}
use Rattle.run_tasks.proofs.Prepared.Planning.{all_planned, none_planned, one_planned, stopped}
use Rattle.run_tasks.proofs.planned.plan.Goals as goal

pub returns : goal.returns
returns c = all_planned c.args.compilation.now c.args.recipes.now c.loop-resolved.resolved-index c.loop-resolved.all.items c.loop-resolved-test.false c.loop-resolved.invariant

pub loop-resolved-init : goal.loop-resolved-init
loop-resolved-init c = none_planned c.args.compilation.now c.args.recipes.now _ c.new-all.ensures.items

pub returns-in_default : goal.returns-in_default
returns-in_default c = stopped c.args.compilation.now c.args.recipes.now c.loop-resolved.resolved-index c.resolved-item.result c.loop-resolved.all.items c.loop-resolved-test.true c.resolved-item.is (sym c.in_default.ensures.there) c.loop-resolved.invariant

pub loop-resolved-preserved : goal.loop-resolved-preserved
loop-resolved-preserved c = one_planned c.args.compilation.now c.args.recipes.now c.loop-resolved.resolved-index c.resolved-item.result _ c.loop-resolved.all.items _ c.loop-resolved-test.true c.resolved-item.is
    (record { recipe = c.in-Some.ensures.found; module_is = refl; priors = c.as_slice.ensures.value; subsequents = c.as_slice-in-loop-resolved.ensures.value }) c.in_ok-push.ensures.items c.loop-resolved.invariant
