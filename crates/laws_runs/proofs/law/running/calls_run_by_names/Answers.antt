use Rattle.just_meaning.specs.Driving.{CallRule}
use Rattle.laws_runs.proofs.Running.Running.Calls.{calls_run_named}
use Rattle.laws_runs.proofs.law.running.calls_run_by_names.Goals as goal

pub returns : goal.returns
returns c = calls_run_named CallRule
