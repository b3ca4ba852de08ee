-- How far a task was recorded, however it ended.
use Rattle.std.specs.Prelude.{◌≡◌, ◌⊎◌, List, Ok, slice_get}
use Rattle.just_host.specs.declared.entry.Entry.{Entry}
use Rattle.evaluate_context.specs.declared.context.ExecutionContext.{ExecutionContext}
use Rattle.evaluate_context.specs.declared.context.ModuleView.{ModuleView}
use Rattle.meaning_runs.specs.Tallies.{Tally}
use Rattle.analyze_calls.specs.Calls.{CallRow, rows}
use Rattle.analyze_calls.specs.Opening.{AllBegin, OpenedRow, OpensAll}
use Rattle.analyze_calls.specs.declared.opening.Opening.{Opening as Opens}
use Rattle.analyze_calls.specs.declared.plan.Planned.{Planned}
use Rattle.analyze_calls.specs.declared.plan.Runner.{Runner}
use Rattle.analyze_calls.specs.Runs.Cut.{BeginsRun}
use Rattle.run_tasks.specs.Opened.{AreContexts, IsOpeningOf}
use Rattle.run_tasks.specs.Performed.{HandsInRoot, TaskEnd}
use Rattle.run_tasks.specs.declared.task.Task.{Task}
use Rattle.run_tasks.specs.declared.task.Task.TheVariants as tasks
use Rattle.run_tasks.specs.declared.task.TaskContext.{TaskContext}

-- what was recorded is the beginning of what a run of the calls over these recipes and contexts records, with nothing done at first
pub record RunBegins (recipes : List Planned) (contexts : List ExecutionContext) (calls : List CallRow) (old : List Entry) (t : Tally) (new : List Entry) : Type 0 where
  pub runner : Runner
  pub recipes_are : runner.recipes.now ≡ recipes
  pub contexts_are : runner.contexts.now ≡ contexts
  pub begins : BeginsRun runner calls old t new

-- of calls a beginning of their run; of values nothing; of a command nothing, or its line
abbrev pub BeginsIn : List Planned → List ExecutionContext → Task → List Entry → Tally → List Entry → Type 0
BeginsIn recipes contexts (tasks.Run calls) old t new = RunBegins recipes contexts (rows calls.items) old t new
BeginsIn recipes contexts (tasks.Evaluate target) old t new = new ≡ old
BeginsIn recipes contexts (tasks.Command words) old t new = (new ≡ old) ⊎ ((end : TaskEnd) × HandsInRoot (slice_get contexts 0) words.now old new end)

-- over what is open: nothing was recorded, or a beginning of what is done over the contexts
pub data BeginsOpened (context : TaskContext) (modules : List ModuleView) (recipes : List Planned) (task : Task) (rows : List OpenedRow) (old : List Entry) (t : Tally) (new : List Entry) : Type 0 where
  nothing_opened : new ≡ old → BeginsOpened context modules recipes task rows old t new
  in_opened : {contexts : List ExecutionContext} → AreContexts context rows 0 modules contexts → BeginsIn recipes contexts task old t new → BeginsOpened context modules recipes task rows old t new

-- What was recorded is the beginning of what the task records: nothing, a beginning of the opening of modules, or the whole of it and of what is done over what is open a beginning.
pub data Begins (context : TaskContext) (modules : List ModuleView) (recipes : List Planned) (task : Task) (old : List Entry) (t : Tally) (new : List Entry) : Type 0 where
  nothing : new ≡ old → Begins context modules recipes task old t new
  in_opening : (opens : Opens) → IsOpeningOf context opens → AllBegin opens modules context.opening_order.now old new → Begins context modules recipes task old t new
  in_task : {mid : List Entry} {rows : List OpenedRow} {contexts : List ExecutionContext} (opens : Opens) → IsOpeningOf context opens → OpensAll opens modules context.opening_order.now old mid (Ok rows)
      → AreContexts context rows 0 modules contexts → BeginsIn recipes contexts task mid t new → Begins context modules recipes task old t new
