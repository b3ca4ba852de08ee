use Rattle.laws_runs.proofs.Resolved.Leading.{paths_lead}
use Rattle.laws_runs.proofs.law.resolved.paths_lead.Goals as goal

pub returns : goal.returns
returns c = paths_lead
