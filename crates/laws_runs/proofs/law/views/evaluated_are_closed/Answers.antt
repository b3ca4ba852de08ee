use Rattle.laws_runs.proofs.Views.Evaluated.{evaluated_are_closed}
use Rattle.laws_runs.proofs.law.views.evaluated_are_closed.Goals as goal

pub returns : goal.returns
returns c = evaluated_are_closed c.args.overrides.now
