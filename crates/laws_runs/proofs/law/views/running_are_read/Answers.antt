use Rattle.laws_runs.proofs.Views.Evaluated.{running_are_read}
use Rattle.laws_runs.proofs.law.views.running_are_read.Goals as goal

pub returns : goal.returns
returns c = running_are_read c.args.overrides.now
