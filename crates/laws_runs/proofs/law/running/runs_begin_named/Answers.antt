use Rattle.laws_runs.proofs.Running.Steps.BegunRuns.{runs_begin}
use Rattle.laws_runs.proofs.law.running.runs_begin_named.Goals as goal

pub returns : goal.returns
returns c = runs_begin
