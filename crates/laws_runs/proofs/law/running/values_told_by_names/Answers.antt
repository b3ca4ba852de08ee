use Rattle.laws_runs.proofs.Running.Running.Values.{values_are_named}
use Rattle.laws_runs.proofs.law.running.values_told_by_names.Goals as goal

pub returns : goal.returns
returns c = values_are_named
