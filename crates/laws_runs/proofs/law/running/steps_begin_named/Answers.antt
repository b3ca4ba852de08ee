use Rattle.laws_runs.proofs.Running.Steps.BegunAlike.{cuts_alike}
use Rattle.laws_runs.proofs.law.running.steps_begin_named.Goals as goal

pub returns : goal.returns
returns c = cuts_alike
