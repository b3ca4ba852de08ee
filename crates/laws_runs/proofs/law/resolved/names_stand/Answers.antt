use Rattle.laws_runs.proofs.Resolved.Variables.{names_stand}
use Rattle.laws_runs.proofs.law.resolved.names_stand.Goals as goal

pub returns : goal.returns
returns c = names_stand
