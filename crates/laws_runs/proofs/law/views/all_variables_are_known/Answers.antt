use Rattle.laws_runs.proofs.Views.Views.{all_variables_are_known}
use Rattle.laws_runs.proofs.law.views.all_variables_are_known.Goals as goal

pub returns : goal.returns
returns c = all_variables_are_known c.args.overrides.now
