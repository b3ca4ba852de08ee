use Rattle.laws_runs.proofs.Running.Steps.Runs.{runs_named}
use Rattle.laws_runs.proofs.law.running.runs_are_named.Goals as goal

pub returns : goal.returns
returns c = runs_named
