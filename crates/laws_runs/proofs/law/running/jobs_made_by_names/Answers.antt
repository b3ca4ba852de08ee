use Rattle.laws_runs.proofs.Running.Running.Jobs.{jobs_are_named}
use Rattle.laws_runs.proofs.law.running.jobs_made_by_names.Goals as goal

pub returns : goal.returns
returns c = jobs_are_named
