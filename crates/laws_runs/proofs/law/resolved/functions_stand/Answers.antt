use Rattle.laws_runs.proofs.Resolved.Functions.{functions_stand}
use Rattle.laws_runs.proofs.law.resolved.functions_stand.Goals as goal

pub returns : goal.returns
returns c = functions_stand
