use Rattle.laws_runs.proofs.Views.Parameters.{parameters_are_known}
use Rattle.laws_runs.proofs.law.views.parameters_are_known.Goals as goal

pub returns : goal.returns
returns c = parameters_are_known
