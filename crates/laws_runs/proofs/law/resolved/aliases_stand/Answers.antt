use Rattle.laws_runs.proofs.Resolved.Aliases.{aliases_stand}
use Rattle.laws_runs.proofs.law.resolved.aliases_stand.Goals as goal

pub returns : goal.returns
returns c = aliases_stand
