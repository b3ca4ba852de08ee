-- What a task comes to once modules are open: recipes run, values are told, or one command is handed over.
use Rattle.std.specs.Prelude.{◌≡◌, ◌≢◌, ℕ, Bool, true, false, List, [], ◌∷◌, ◌++◌, Option, Some, None, Result, Ok, Err, slice_get}
use Rattle.std.specs.String.{string_bytes}
use Rattle.just_host.specs.declared.entry.Entry.{Entry}
use Rattle.just_host.specs.declared.entry.Entry.TheVariants.{Line}
use Rattle.just_host.specs.declared.host.Status.{Status}
use Rattle.tree_items.specs.Lines.{no_sigils}
use Rattle.evaluate_context.specs.Refusals.{fault_of}
use Rattle.evaluate_context.specs.declared.context.ExecutionContext.{ExecutionContext}
use Rattle.evaluate_context.specs.declared.context.ModuleView.{ModuleView}
use Rattle.justfile_evaluator.specs.Ended.{failure_of}
use Rattle.justfile_evaluator.specs.declared.fault.RunFault.TheVariants.{OutOfMemory}
use Rattle.meaning_dialogues.specs.Faults.{memory}
use Rattle.meaning_evaluation.specs.Requests.{OpeningFailure, dotenv, opening}
use Rattle.meaning_runs.specs.Failures.{Failure, Next, evaluation, next_by}
use Rattle.meaning_runs.specs.Tallies.{Tally}
use Rattle.analyze_calls.specs.Calls.{CallRow, rows}
use Rattle.analyze_calls.specs.Opening.{OpenedRow, OpensAll}
use Rattle.analyze_calls.specs.declared.fault.OpeningFault.TheVariants as openings
use Rattle.analyze_calls.specs.declared.opening.Opening.{Opening as Opens}
use Rattle.analyze_calls.specs.declared.plan.Planned.{Planned}
use Rattle.analyze_calls.specs.declared.plan.Runner.{Runner}
use Rattle.analyze_calls.specs.Runs.Rest.{HasRun}
use Rattle.analyze_calls.specs.Runs.Steps.{parts}
use Rattle.run_tasks.specs.Commands.{words_job}
use Rattle.run_tasks.specs.Opened.{AreContexts, IsOpeningOf}
use Rattle.run_tasks.specs.Tasks.{values_text}
use Rattle.run_tasks.specs.declared.fault.TaskFault.{TaskFault}
use Rattle.run_tasks.specs.declared.fault.TaskFault.TheVariants.{Opening, Run, Command}
use Rattle.run_tasks.specs.declared.task.Performed.{Performed}
use Rattle.run_tasks.specs.declared.task.Performed.TheVariants.{Ran, Evaluated}
use Rattle.run_tasks.specs.declared.task.Task.{Task}
use Rattle.run_tasks.specs.declared.task.Task.TheVariants as tasks
use Rattle.run_tasks.specs.declared.task.TaskContext.{TaskContext}

-- ---- ends

-- how a run ends: its opening was refused, a recipe failed, or it ran
pub data RunEnd : Type 0 where
  not_opened : OpeningFailure → RunEnd
  failed : Failure → RunEnd
  ran : RunEnd

abbrev pub end_of : Option Failure → RunEnd
end_of None = ran
end_of (Some failure) = failed failure

-- how a task ends: as a run does, with the text of values, or with how its command failed
pub data TaskEnd : Type 0 where
  ends_as : RunEnd → TaskEnd
  told : List ℕ → TaskEnd
  command_failed : Failure → TaskEnd

-- how a command ends, by its first word and what follows its status
abbrev pub end_by : Result Next Failure → TaskEnd
end_by (Ok next) = ends_as ran
end_by (Err failure) = command_failed failure

abbrev pub command_end : List ℕ → Status → TaskEnd
command_end command status = end_by (next_by command no_sigils status)

-- ---- what is done over contexts

-- the calls run over these recipes and contexts, with nothing done at first
pub data RunsIn (recipes : List Planned) (contexts : List ExecutionContext) (calls : List CallRow) (old : List Entry) (t : Tally) (new : List Entry) (t' : Tally) : RunEnd → Type 0 where
  runs_in : {failure : Option Failure} (runner : Runner) → runner.recipes.now ≡ recipes → runner.contexts.now ≡ contexts → HasRun (parts runner) calls old t new t' failure
      → RunsIn recipes contexts calls old t new t' (end_of failure)

-- nothing is handed over
abbrev pub IsIdleOver : List Entry → List Entry → TaskEnd → Type 0
IsIdleOver old new end = (new ≡ old) × (end ≡ ends_as ran)

-- a command and the words after it are handed over as one line; nothing is in a dry run, or where there is no word
abbrev pub HandsWords : ExecutionContext → Bool → List (List ℕ) → List Entry → List Entry → TaskEnd → Type 0
HandsWords context is_dry [] old new end = IsIdleOver old new end
HandsWords context true (command ∷ words) old new end = IsIdleOver old new end
HandsWords context false (command ∷ words) old new end = (status : Status) × (new ≡ old ++ Line (words_job context command words) status ∷ []) × (end ≡ command_end command status)

-- in the root module; nothing is where there is none
abbrev pub HandsInRoot : Option ExecutionContext → List (List ℕ) → List Entry → List Entry → TaskEnd → Type 0
HandsInRoot None words old new end = IsIdleOver old new end
HandsInRoot (Some root) words old new end = HandsWords root root.config.now.dry_run words old new end

-- only a run ends as this says
abbrev pub IfRunEnd : TaskEnd → (RunEnd → Type 0) → Type 0
IfRunEnd (ends_as end) P = P end
IfRunEnd (told text) P = ⊥
IfRunEnd (command_failed failure) P = ⊥

-- calls run; values are told, and nothing is asked; a command is handed over in the root module
abbrev pub PerformsIn : List Planned → List ExecutionContext → Task → List Entry → Tally → List Entry → Tally → TaskEnd → Type 0
PerformsIn recipes contexts (tasks.Run calls) old t new t' end = IfRunEnd end (RunsIn recipes contexts (rows calls.items) old t new t')
PerformsIn recipes contexts (tasks.Evaluate target) old t new t' end = (new ≡ old) × (end ≡ told (values_text contexts target))
PerformsIn recipes contexts (tasks.Command words) old t new t' end = HandsInRoot (slice_get contexts 0) words.now old new end

-- ---- from the opening of modules on

module _ (context : TaskContext) (modules : List ModuleView) (recipes : List Planned) (task : Task) where
  -- the task is done over what is open
  pub record PerformsOpened (rows : List OpenedRow) (old : List Entry) (t : Tally) (new : List Entry) (t' : Tally) (end : TaskEnd) : Type 0 where
    pub contexts : List ExecutionContext
    pub are : AreContexts context rows 0 modules contexts
    pub performs : PerformsIn recipes contexts task old t new t' end

  -- modules open in their order, and then the task is done over what is open
  pub data PerformsFrom (opens : Opens) (old : List Entry) (t : Tally) (new : List Entry) : Tally → TaskEnd → Type 0 where
    refused : {failure : OpeningFailure} → OpensAll opens modules context.opening_order.now old new (Err failure) → PerformsFrom opens old t new t (ends_as (not_opened failure))
    opened : {mid : List Entry} {rows : List OpenedRow} {t' : Tally} {end : TaskEnd} → OpensAll opens modules context.opening_order.now old mid (Ok rows) → PerformsOpened rows mid t new t' end → PerformsFrom opens old t new t' end

  -- the same, with the constants of the language around all modules
  pub record Performs (old : List Entry) (t : Tally) (new : List Entry) (t' : Tally) (end : TaskEnd) : Type 0 where
    pub opens : Opens
    pub is : IsOpeningOf context opens
    pub performs : PerformsFrom opens old t new t' end

-- ---- what is answered

-- P holds of how it ended, where memory sufficed
abbrev pub IfEnds : Bool → Result Performed TaskFault → (TaskEnd → Type 0) → Type 0
IfEnds exhausted (Ok Ran) P = exhausted ≡ false → P (ends_as ran)
IfEnds exhausted (Ok (Evaluated text)) P = P (told (string_bytes text))
IfEnds exhausted (Err (Opening openings.OutOfMemory)) P = Unit {0}
IfEnds exhausted (Err (Opening (openings.Dotenv fault))) P = P (ends_as (not_opened (dotenv fault)))
IfEnds exhausted (Err (Opening (openings.Opening error))) P = P (ends_as (not_opened (opening (fault_of error))))
IfEnds exhausted (Err (Run fault)) P = exhausted ≡ false → failure_of fault ≢ evaluation memory → P (ends_as (failed (failure_of fault)))
IfEnds exhausted (Err (Command fault)) P = exhausted ≡ false → P (command_end fault.word fault.status)

-- a run answers no values and no command's fault; values are answered, and no recipe and no command fails; a command answers no values, and no recipe fails
abbrev pub Fits : Task → Result Performed TaskFault → Type 0
Fits (tasks.Run calls) (Ok Ran) = Unit {0}
Fits (tasks.Run calls) (Ok (Evaluated text)) = ⊥
Fits (tasks.Run calls) (Err (Opening fault)) = Unit {0}
Fits (tasks.Run calls) (Err (Run fault)) = Unit {0}
Fits (tasks.Run calls) (Err (Command fault)) = ⊥
Fits (tasks.Evaluate target) (Ok Ran) = ⊥
Fits (tasks.Evaluate target) (Ok (Evaluated text)) = Unit {0}
Fits (tasks.Evaluate target) (Err (Opening fault)) = Unit {0}
Fits (tasks.Evaluate target) (Err (Run fault)) = fault ≡ OutOfMemory
Fits (tasks.Evaluate target) (Err (Command fault)) = ⊥
Fits (tasks.Command words) (Ok Ran) = Unit {0}
Fits (tasks.Command words) (Ok (Evaluated text)) = ⊥
Fits (tasks.Command words) (Err (Opening fault)) = Unit {0}
Fits (tasks.Command words) (Err (Run fault)) = fault ≡ OutOfMemory
Fits (tasks.Command words) (Err (Command fault)) = Unit {0}

-- the task is answered as one of its kind, and P holds of how it ended, where memory sufficed
abbrev pub IfPerformed : Task → Bool → Result Performed TaskFault → (TaskEnd → Type 0) → Type 0
IfPerformed task exhausted result P = Fits task result × IfEnds exhausted result P
