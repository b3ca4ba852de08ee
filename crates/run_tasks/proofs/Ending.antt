-- How a run ends, by how its parts end.
use Rattle.std.proofs.Common.{◌≡◌, ◌≢◌, refl, Bool, false, List, Result, Ok, Err, ap, subst, sym}
use Rattle.std.specs.Result.{IsErr, IsErrAnd}
use Rattle.meaning_evaluation.specs.Requests.{OpeningFailure}
use Rattle.analyze_calls.specs.Opening.{IfOpened}
use Rattle.analyze_calls.specs.declared.fault.OpeningFault.{OpeningFault}
use Rattle.analyze_calls.specs.declared.fault.OpeningFault.TheVariants as openings
use Rattle.just_host.specs.declared.entry.Entry.{Entry}
use Rattle.evaluate_context.specs.declared.context.ExecutionContext.{ExecutionContext}
use Rattle.evaluate_context.specs.declared.context.ModuleView.{ModuleView}
use Rattle.justfile_evaluator.specs.Ended.{failure_of}
use Rattle.meaning_dialogues.specs.Faults.{memory}
use Rattle.meaning_runs.specs.Failures.{evaluation}
use Rattle.meaning_runs.specs.Tallies.{Tally}
use Rattle.analyze_calls.specs.declared.call.Call.{Call}
use Rattle.std.specs.Global.{Vec}
use Rattle.analyze_calls.specs.Opening.{OpenedRow, OpensAll}
use Rattle.analyze_calls.specs.declared.opening.Opening.{Opening as Opens}
use Rattle.analyze_calls.specs.declared.plan.Planned.{Planned}
use Rattle.run_tasks.specs.Opened.{AreContexts, IsOpeningOf}
use Rattle.run_tasks.specs.Performed.{Fits, IfEnds, IfPerformed, Performs, PerformsIn, PerformsOpened, TaskEnd, ends_as, failed, not_opened, opened, refused}
use Rattle.run_tasks.specs.declared.task.Task.{Task}
use Rattle.run_tasks.specs.declared.task.TaskContext.{TaskContext}
use Rattle.run_tasks.specs.declared.fault.TaskFault.{TaskFault}
use Rattle.run_tasks.specs.declared.fault.TaskFault.TheVariants.{Opening, Run, Command}
use Rattle.run_tasks.specs.declared.task.Performed.{Performed}
use Rattle.run_tasks.specs.declared.task.Performed.TheVariants.{Ran, Evaluated}
use Rattle.justfile_evaluator.specs.declared.fault.RunFault.{RunFault}
use Rattle.justfile_evaluator.specs.declared.fault.RunFault.TheVariants.{OutOfMemory}
use Rattle.run_tasks.specs.declared.task.Task.TheVariants as tasks

-- a refusal that is handed on
pub err_is : {A E : Type 0} (r : Result A E) (error : E) → IsErr r × IsErrAnd r (λ e. e ≡ error) → r ≡ Err error
err_is (Ok a) error h = absurd (cc h.0)
err_is (Err e) error h = ap Err h.1

-- each task may lack memory, and may be refused by its opening
pub fits_memory : (task : Task) → Fits task (Err (Run OutOfMemory))
fits_memory (tasks.Run calls) = tt
fits_memory (tasks.Evaluate target) = refl
fits_memory (tasks.Command words) = refl

pub fits_opening : (task : Task) (fault : OpeningFault) → Fits task (Err (Opening fault))
fits_opening (tasks.Run calls) fault = tt
fits_opening (tasks.Evaluate target) fault = tt
fits_opening (tasks.Command words) fault = tt

-- a recipe that failed, or memory that ran out, ends a run
pub run_refused : (exhausted : Bool) (result : Result Performed TaskFault) (fault : RunFault) (P : TaskEnd → Type 0) → IsErr result × IsErrAnd result (λ e. e ≡ Run fault)
    → (exhausted ≡ false → failure_of fault ≢ evaluation memory → P (ends_as (failed (failure_of fault)))) → IfEnds exhausted result P
run_refused exhausted result fault P is h = subst (λ r. IfEnds exhausted r P) (sym (err_is result (Run fault) is)) h

pub run_fits : (calls : Vec Call) (result : Result Performed TaskFault) (fault : RunFault) → IsErr result × IsErrAnd result (λ e. e ≡ Run fault) → Fits (tasks.Run calls) result
run_fits calls result fault is = subst (Fits (tasks.Run calls)) (sym (err_is result (Run fault) is)) tt

-- a task for which memory was wanting
pub memory_refused : (task : Task) (exhausted : Bool) (result : Result Performed TaskFault) (P : TaskEnd → Type 0) → IsErr result × IsErrAnd result (λ e. e ≡ Run OutOfMemory) → IfPerformed task exhausted result P
memory_refused task exhausted result P is = subst (λ r. IfPerformed task exhausted r P) (sym (err_is result (Run OutOfMemory) is)) (fits_memory task, λ e differs. absurd (differs refl))

ends_so : (exhausted : Bool) (result : Result Performed TaskFault) (P Q : TaskEnd → Type 0) → ((end : TaskEnd) → P end → Q end) → IfEnds exhausted result P → IfEnds exhausted result Q
ends_so exhausted (Ok Ran) P Q so h = λ e. so _ (h e)
ends_so exhausted (Ok (Evaluated text)) P Q so h = so _ h
ends_so exhausted (Err (Command fault)) P Q so h = λ e. so _ (h e)
ends_so exhausted (Err (Opening openings.OutOfMemory)) P Q so h = tt
ends_so exhausted (Err (Opening (openings.Dotenv fault))) P Q so h = so _ h
ends_so exhausted (Err (Opening (openings.Opening error))) P Q so h = so _ h
ends_so exhausted (Err (Run fault)) P Q so h = λ e suffices. so _ (h e suffices)

-- what holds of each end holds of this one
pub performed_so : (task : Task) (exhausted : Bool) (result : Result Performed TaskFault) (P Q : TaskEnd → Type 0) → ((end : TaskEnd) → P end → Q end) → IfPerformed task exhausted result P → IfPerformed task exhausted result Q
performed_so task exhausted result P Q so h = (h.0, ends_so exhausted result P Q so h.1)

-- an opening that was refused ends the task
refused_so : {A B : Type 0} (row : A → B) (exhausted : Bool) (fault : OpeningFault) (P : Result B OpeningFailure → Type 0) (Q : TaskEnd → Type 0) → ((failure : OpeningFailure) → P (Err failure) → Q (ends_as (not_opened failure)))
    → IfOpened row (Err fault) P → IfEnds exhausted (Err (Opening fault)) Q
refused_so row exhausted openings.OutOfMemory P Q so h = tt
refused_so row exhausted (openings.Dotenv fault) P Q so h = so _ h
refused_so row exhausted (openings.Opening error) P Q so h = so _ h

module _ (context : TaskContext) (modules : List ModuleView) (recipes : List Planned) (task : Task) (opens : Opens) (is : IsOpeningOf context opens) (old : List Entry) (t : Tally) where
  pub opening_refused : {A : Type 0} (row : A → List OpenedRow) (exhausted : Bool) (result : Result Performed TaskFault) (fault : OpeningFault) (new : List Entry) → IsErr result × IsErrAnd result (λ e. e ≡ Opening fault)
      → IfOpened row (Err fault) (OpensAll opens modules context.opening_order.now old new) → IfPerformed task exhausted result (Performs context modules recipes task old t new t)
  opening_refused row exhausted result fault new refuses h =
      subst (λ r. IfPerformed task exhausted r (Performs context modules recipes task old t new t)) (sym (err_is result (Opening fault) refuses))
      (fits_opening task fault, refused_so row exhausted fault (OpensAll opens modules context.opening_order.now old new) (Performs context modules recipes task old t new t) (λ failure h. record { opens = opens; is = is; performs = refused h }) h)

  -- what is done over what was opened is done from the opening on
  pub opened_so : (mid new : List Entry) (t' : Tally) (rows rows' : List OpenedRow) → rows' ≡ rows → OpensAll opens modules context.opening_order.now old mid (Ok rows)
      → (exhausted : Bool) (result : Result Performed TaskFault) → IfPerformed task exhausted result (PerformsOpened context modules recipes task rows' mid t new t') → IfPerformed task exhausted result (Performs context modules recipes task old t new t')
  opened_so mid new t' rows rows' same h exhausted result =
      performed_so task exhausted result (PerformsOpened context modules recipes task rows' mid t new t') (Performs context modules recipes task old t new t')
      (λ end performs. record { opens = opens; is = is; performs = opened h (subst (λ rs. PerformsOpened context modules recipes task rs mid t new t' end) same performs) })

-- what is done over contexts is done over what was opened
pub contexts_so : (context : TaskContext) (modules : List ModuleView) (recipes : List Planned) (task : Task) (rows : List OpenedRow) (contexts contexts' : List ExecutionContext) → contexts' ≡ contexts → AreContexts context rows 0 modules contexts
    → (old : List Entry) (t : Tally) (new : List Entry) (t' : Tally) (exhausted : Bool) (result : Result Performed TaskFault)
    → IfPerformed task exhausted result (PerformsIn recipes contexts' task old t new t') → IfPerformed task exhausted result (PerformsOpened context modules recipes task rows old t new t')
contexts_so context modules recipes task rows contexts contexts' same are old t new t' exhausted result =
    performed_so task exhausted result (PerformsIn recipes contexts' task old t new t') (PerformsOpened context modules recipes task rows old t new t')
    (λ end performs. record { contexts = contexts; are = are; performs = subst (λ cs. PerformsIn recipes cs task old t new t' end) same performs })
