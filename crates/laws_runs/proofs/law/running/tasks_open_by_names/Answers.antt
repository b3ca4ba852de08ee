use Rattle.laws_runs.proofs.Running.Opening.Whole.{tasks_open_by_names}
use Rattle.laws_runs.proofs.law.running.tasks_open_by_names.Goals as goal

pub returns : goal.returns
returns c = tasks_open_by_names
