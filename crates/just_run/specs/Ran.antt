-- What came of a request, by the places of recipes, modules and variables.
use Rattle.std.specs.Prelude.{◌≡◌, ◌⊎◌, ◌++◌, ℕ, false, List, [], Option, IsSome, String, Result, Ok, Err}
use Rattle.std.specs.Global.{Vec}
use Rattle.std.specs.String.{string_bytes}
use Rattle.just_host.specs.Follows.{questions}
use Rattle.just_host.specs.declared.config.Config.{Config}
use Rattle.just_host.specs.declared.entry.Entry.{Entry}
use Rattle.modules_compilation.specs.declared.compilation.Compilation.{Compilation}
use Rattle.resolve_analysis.specs.declared.analysis.Analysis.{Analysis}
use Rattle.analyze_calls.specs.declared.call.Call.{Call}
use Rattle.run_plan.specs.Answered.{AreWellAnswered}
use Rattle.run_plan.specs.Plans.{plan_text}
use Rattle.run_tasks.specs.Performed.{IfPerformed, TaskEnd}
use Rattle.run_tasks.specs.declared.fault.TaskFault.{TaskFault}
use Rattle.run_tasks.specs.declared.task.Performed.{Performed}
use Rattle.run_tasks.specs.declared.task.Performed.TheVariants.{Evaluated, Ran}
use Rattle.run_tasks.specs.declared.task.Task.{Task}
use Rattle.run_tasks.specs.declared.task.Task.TheVariants as tasks
use Rattle.run_tasks.specs.Prepared.Begun.{BeginsTask}
use Rattle.run_tasks.specs.Prepared.Performed.{PerformsTask}
use Rattle.run_tasks.specs.Requested.Asked.{IsAskedFor}
use Rattle.run_tasks.specs.declared.action.Action.{Action}
use Rattle.run_tasks.specs.declared.request.Request.TheVariants as requests
use Rattle.run_tasks.specs.declared.request.RootText.{RootText}
use Rattle.just_run.specs.Named.{Left}
use Rattle.just_run.specs.Passed.{task_fault}
use Rattle.just_run.specs.Plans.{IsWrittenPlan}
use Rattle.just_run.specs.Texts.{TellsRoot}
use Rattle.just_run.specs.Writes.{Writes}
use Rattle.just_run.specs.declared.fault.Fault.{Fault}
use Rattle.just_run.specs.declared.fault.Fault.TheVariants as faults
use Rattle.just_run.specs.declared.outcome.Outcome.{Outcome}
use Rattle.just_run.specs.declared.outcome.Outcome.TheVariants as outcomes

-- What is answered and written of what came of a task: a run and a command write nothing, values are written, a fault is told.
abbrev pub Answers : Left → Result Performed TaskFault → Result Outcome Fault → Type 0
Answers left (Ok Ran) result = (result ≡ Ok outcomes.Ran) × (left.sends.written ≡ left.sent.written)
Answers left (Ok (Evaluated text)) result = Writes left.sent (string_bytes text) outcomes.Evaluated result left.sends
Answers left (Err fault) result = (result ≡ Err (task_fault fault)) × (left.sends.written ≡ left.sent.written)

-- the text was there, and how what was planned ended is answered; or a write failed, or memory ran out
abbrev pub WasSent : {Z : Type 0} → Option (String Z) → Result Outcome Fault → Result Outcome Fault → Type 0
WasSent text ended result = (IsSome text × (result ≡ ended)) ⊎ ((result ≡ Err faults.Write) ⊎ (result ≡ Err faults.OutOfMemory))

-- a task ended so, which is answered, unless memory ran out
pub record EndsTask (left : Left) (result : Result Outcome Fault) (task : Task) (Performs : TaskEnd → Type 0) : Type 0 where
  pub performed : Result Performed TaskFault
  pub answers : Answers left performed result
  pub ended : IfPerformed task left.exhausted performed Performs

-- what is answered of a run that was planned, once its plan is written
abbrev pub plan_answer : Result Performed TaskFault → Result Outcome Fault
plan_answer (Ok performed) = Ok outcomes.Planned
plan_answer (Err fault) = Err (task_fault fault)

-- the plan was written, and how the run ended is answered; or it was not
pub data PlanEnds (result : Result Outcome Fault) (task : Task) (performed : Result Performed TaskFault) (Performs : TaskEnd → Type 0) : Type 0 where
  written : result ≡ plan_answer performed → IfPerformed task false performed Performs → PlanEnds result task performed Performs
  unwritten : (result ≡ Err faults.Write) ⊎ (result ≡ Err faults.OutOfMemory) → PlanEnds result task performed Performs

-- A run was planned: it went on under a host of which the caller's answered the questions alone, from an empty record to these entries, whose text is written.
pub record PlansTask (left : Left) (result : Result Outcome Fault) (task : Task) (Performs : List Entry → TaskEnd → Type 0) (Begins : List Entry → Type 0) : Type 0 where
  pub entries : List Entry
  pub asked : left.exhausted ≡ false → left.behind ≡ left.before ++ questions entries
  pub written : IsWrittenPlan left.sent.written (plan_text entries) result left.sends.written
  pub performed : Result Performed TaskFault
  pub ended : PlanEnds result task performed (Performs entries)
  pub begun : Begins entries
  pub answered : AreWellAnswered entries

module _ (compilation : Compilation) (analysis : Analysis) (config : Config) (root : List ℕ) (words : List (List ℕ)) (left : Left) (result : Result Outcome Fault) where
  -- what the action and the words ask for was done: a task, a plan, or a text of the root module; however a task ended, what was recorded is its beginning
  pub data GoesPlaced (action : Action) : Type 0 where
    does : (task : Task) → IsAskedFor compilation analysis words action (requests.Task task) → EndsTask left result task (PerformsTask compilation analysis config root task left.before left.behind) → BeginsTask compilation analysis config root task left.before left.behind → GoesPlaced action
    plans : (calls : Vec Call) → IsAskedFor compilation analysis words action (requests.Plan calls) → PlansTask left result (tasks.Run calls) (PerformsTask compilation analysis config root (tasks.Run calls) []) (BeginsTask compilation analysis config root (tasks.Run calls) []) → GoesPlaced action
    tells : (text : RootText) → IsAskedFor compilation analysis words action (requests.Text text) → left.behind ≡ left.before → TellsRoot compilation config.os root text left.sent result left.sends → GoesPlaced action
