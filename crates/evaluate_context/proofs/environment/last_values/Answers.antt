-- One more value, in place of an earlier one or of none.
use Rattle.evaluate_context.proofs.LastValues.{one_more}
use Rattle.evaluate_context.proofs.environment.last_values.Goals as goal

pub loop-pair-preserved : goal.loop-pair-preserved
loop-pair-preserved c = λ name. one_more name c.in-Some.pair _ _ _ _ _ c.in-Some.ensures.steps.0 (c.loop-pair.invariant name) (c.in_ok-insert.ensures.updates.0 name)

pub loop-pair-preserved-in_ok-insert : goal.loop-pair-preserved-in_ok-insert
loop-pair-preserved-in_ok-insert c = λ name. one_more name c.in-Some.pair _ _ _ _ _ c.in-Some.ensures.steps.0 (c.loop-pair.invariant name) (c.in_ok-insert.ensures.updates.0 name)
