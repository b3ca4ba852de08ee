use Rattle.laws_runs.proofs.Running.Running.BegunActions.{evaluations_begin_named}
use Rattle.laws_runs.proofs.law.running.evaluations_begin_by_names.Goals as goal

pub returns : goal.returns
returns c = evaluations_begin_named
