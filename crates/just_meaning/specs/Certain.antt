-- When no opening, no run, no evaluation of values and no handing over of a command ends with `internal`: each name that is read or called stands for something, and calls are of recipes that are there.
use Rattle.std.specs.Prelude.{◌≡◌, false}
use Rattle.meaning_evaluation.specs.Requests.{OpeningFailure, dotenv, opening}
use Rattle.meaning_runs.specs.Failures.{Failure, by_code, by_signal, evaluation, not_confirmed, not_started}
use Rattle.just_meaning.specs.Actions.{ActionEnd}
use Rattle.just_meaning.specs.Actions as actions
use Rattle.just_meaning.specs.Runs.{failed, not_opened}
use Rattle.meaning_dialogues.specs.Internal.{is_internal}

-- an opening that failed with another fault than `internal`
abbrev pub IsCertainOpeningFailure : OpeningFailure → Type 0
IsCertainOpeningFailure (dotenv fault) = Unit {0}
IsCertainOpeningFailure (opening fault) = is_internal fault ≡ false

-- a recipe or a command that failed with another fault than `internal`
abbrev pub IsCertainFailure : Failure → Type 0
IsCertainFailure (by_code name code) = Unit {0}
IsCertainFailure (by_signal name signal) = Unit {0}
IsCertainFailure (not_started name) = Unit {0}
IsCertainFailure (not_confirmed name) = Unit {0}
IsCertainFailure (evaluation fault) = is_internal fault ≡ false

-- `--evaluate` or `--command` ended, and not with `internal`
abbrev pub IsCertainActionEnd : ActionEnd → Type 0
IsCertainActionEnd (actions.refused rule) = Unit {0}
IsCertainActionEnd (actions.not_opened failure) = IsCertainOpeningFailure failure
IsCertainActionEnd (actions.command_failed failure) = IsCertainFailure failure
IsCertainActionEnd (actions.written text) = Unit {0}
IsCertainActionEnd actions.unwritten = Unit {0}
IsCertainActionEnd actions.done = Unit {0}
