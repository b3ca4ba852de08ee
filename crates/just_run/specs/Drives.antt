-- What a call does.
use Rattle.std.specs.Prelude.{◌≡◌, ℕ, Bool, List, Result, IfErr}
use Rattle.just_host.specs.Asking.{IsAsked}
use Rattle.just_host.specs.Kinds.{Only}
use Rattle.just_host.specs.Record.{Record}
use Rattle.just_host.specs.declared.entry.Entry.{Entry}
use Rattle.just_run.specs.Root.{Inputs}
use Rattle.just_host.specs.declared.config.Config.{Config}
use Rattle.just_run.specs.Named.{left_of}
use Rattle.meaning_rules.specs.Worlds.Given.{Given, Text}
use Rattle.just_run.specs.Early.{IsEarly}
use Rattle.just_run.specs.Kinds.{MayAdd}
use Rattle.just_run.specs.Plans.{IsKeptBy, Plans}
use Rattle.run_tasks.specs.Requested.Requests.{IsText}
use Rattle.just_run.specs.Sources.{AnswersSources, asked_of}
use Rattle.just_run.specs.Writes.{WriteFails}
use Rattle.just_run.specs.declared.fault.Fault.{Fault}
use Rattle.run_tasks.specs.declared.action.Action.{Action}
use Rattle.run_tasks.specs.declared.action.Action.TheVariants as actions
use Rattle.just_run.specs.declared.outcome.Outcome.{Outcome}

-- what a call finds, and what it leaves: the record of the host, what was written, and how often a write failed
pub record State (H : Type 0) : Type 0 where
  pub host : Record H
  pub written : List ℕ
  pub failed : ℕ

-- Whatever is asked for, of whatever files: `given` is what is looked at for the root at a path.
pub record Drives {H : Type 0} (goes : H → List Entry → H → Type 0) (inputs : Inputs) (given : Text → Given) (config : Config) (action : Action) (old : State H) (result : Result Outcome Fault) (new : State H) : Type 0 where
  -- a fault that is none of a run or of the output names a rule that is broken; then nothing was asked, handed over or written
  pub early : IfErr result (λ fault. IsEarly fault old.host old.written new.host new.written)
  -- the call is refused by a rule of files, modules, definitions, names or words exactly where one is broken, and else what is done goes by what is defined by name
  pub sources : AnswersSources given inputs (asked_of action inputs.words config) (left_of old.host old.written old.failed new.host new.written new.failed) result
  -- where the text of the root file or the list of recipes is asked for, nothing is asked and nothing handed over
  pub silent : IsText action → new.host ≡ old.host
  -- where the call is refused nothing is written, unless the output takes no more, or a run fails whose plan is written
  pub kept : IfErr result (λ fault. IsKeptBy action old.written fault new.written)
  -- a write failed exactly where the answer is `Write`
  pub unfailed : WriteFails old.failed result new.failed
  -- a plan hands nothing over: what is asked are questions and requests for files of variables alone, and what is written tells what a run would hand over
  pub planned : action ≡ actions.Plan → Plans goes old.host old.written result new.host new.written
  -- the record has grown by just what was asked, by entries alone that the action may add, and the host went along by it
  pub asked : (kinds : Entry → Bool) → MayAdd action config.dry_run kinds → IsAsked (Only kinds goes) old.host new.host
