use Rattle.laws_runs.proofs.Resolved.Overrides.{overrides_stand}
use Rattle.laws_runs.proofs.law.resolved.overrides_stand.Goals as goal

pub returns : goal.returns
returns c = overrides_stand
