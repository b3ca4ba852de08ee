use Rattle.laws_runs.proofs.Resolved.Leading.{modules_stand}
use Rattle.laws_runs.proofs.law.resolved.modules_stand.Goals as goal

pub returns : goal.returns
returns c = modules_stand
