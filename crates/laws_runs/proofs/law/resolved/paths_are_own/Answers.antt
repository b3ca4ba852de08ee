use Rattle.laws_runs.proofs.Resolved.Own.{paths_are_own}
use Rattle.laws_runs.proofs.law.resolved.paths_are_own.Goals as goal

pub returns : goal.returns
returns c = paths_are_own
