use Rattle.laws_runs.proofs.Running.Running.BegunActions.{commands_begin_named}
use Rattle.laws_runs.proofs.law.running.commands_begin_by_names.Goals as goal

pub returns : goal.returns
returns c = commands_begin_named
