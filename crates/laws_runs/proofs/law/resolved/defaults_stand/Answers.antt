use Rattle.laws_runs.proofs.Resolved.Defaults.{defaults_stand}
use Rattle.laws_runs.proofs.law.resolved.defaults_stand.Goals as goal

pub returns : goal.returns
returns c = defaults_stand
