use Rattle.laws_runs.proofs.Running.Steps.Alike.{steps_alike}
use Rattle.laws_runs.proofs.law.running.steps_are_named.Goals as goal

pub returns : goal.returns
returns c = steps_alike
