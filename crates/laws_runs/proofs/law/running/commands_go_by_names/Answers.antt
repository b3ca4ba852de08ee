use Rattle.laws_runs.proofs.Running.Running.Commanding.{commands_are_named}
use Rattle.laws_runs.proofs.law.running.commands_go_by_names.Goals as goal

pub returns : goal.returns
returns c = commands_are_named
