use Rattle.laws_runs.proofs.Running.Running.Telling.{evaluations_are_named}
use Rattle.laws_runs.proofs.law.running.evaluations_go_by_names.Goals as goal

pub returns : goal.returns
returns c = evaluations_are_named
