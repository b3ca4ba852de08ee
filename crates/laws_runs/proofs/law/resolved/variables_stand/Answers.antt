use Rattle.laws_runs.proofs.Resolved.Variables.{variables_stand}
use Rattle.laws_runs.proofs.law.resolved.variables_stand.Goals as goal

pub returns : goal.returns
returns c = variables_stand
