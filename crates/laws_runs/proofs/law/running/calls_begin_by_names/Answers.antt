use Rattle.laws_runs.proofs.Running.Running.Begun.{calls_begin_named}
use Rattle.laws_runs.proofs.law.running.calls_begin_by_names.Goals as goal

pub returns : goal.returns
returns c = calls_begin_named
