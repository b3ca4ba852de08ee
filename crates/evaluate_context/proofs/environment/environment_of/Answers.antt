-- The map of the last values gives the environment.
use Rattle.evaluate_context.proofs.LastValues.{environment_is}
use Rattle.evaluate_context.proofs.environment.environment_of.Goals as goal

pub returns : goal.returns
returns c = environment_is _ _ c.in_ok-values.values _ _ c.in_ok-values.ensures c.in_ok-pairs.ensures.ordered c.in_ok-pairs.ensures.pairs c.in_ok-removed.ensures
