use Rattle.laws_runs.proofs.Views.Views.{variables_are_known}
use Rattle.laws_runs.proofs.law.views.variables_are_known.Goals as goal

pub returns : goal.returns
returns c = variables_are_known c.args.overrides.now
