-- What is done once all modules are open.
use Rattle.std.specs.Prelude.{◌≡◌, ℕ, List, [], Option, Some, None, Result, Ok, Err, slice_get}
use Rattle.std.specs.Option.{option_map}
use Rattle.std.specs.String.{string_bytes}
use Rattle.just_host.specs.Record.{Record}
use Rattle.analyze_calls.specs.Asked.{AsksIn}
use Rattle.just_host.specs.declared.entry.Entry.{Entry}
use Rattle.just_value.specs.Frames.{look_up}
use Rattle.just_value.specs.Values.{joined}
use Rattle.evaluate_context.specs.declared.context.ExecutionContext.{ExecutionContext}
use Rattle.justfile_analyzer.specs.Variables.{variables_text}
use Rattle.justfile_analyzer.specs.declared.target.EvaluationTarget.{EvaluationTarget}
use Rattle.justfile_analyzer.specs.declared.target.EvaluationTarget.TheVariants as targets
use Rattle.justfile_evaluator.specs.declared.fault.RunFault.TheVariants.{OutOfMemory}
use Rattle.run_tasks.specs.Commands.{Commands, IsIdle}
use Rattle.run_tasks.specs.declared.fault.TaskFault.{TaskFault}
use Rattle.run_tasks.specs.declared.fault.TaskFault.TheVariants as faults
use Rattle.run_tasks.specs.declared.task.Performed.{Performed}
use Rattle.run_tasks.specs.declared.task.Performed.TheVariants.{Ran, Evaluated}
use Rattle.run_tasks.specs.declared.task.Task.{Task}
use Rattle.run_tasks.specs.declared.task.Task.TheVariants as tasks

-- the variables of a module that are not private; nothing where there is no module
abbrev pub module_text : Option ExecutionContext → List ℕ
module_text None = []
module_text (Some context) = variables_text context.scope.now context.module.now.assignments.now

-- a value's elements joined; nothing where there is no value
abbrev pub joined_text : Option (List (List ℕ)) → List ℕ
joined_text None = []
joined_text (Some value) = joined value

-- the value of a variable in a module's frames
abbrev pub value_text : ℕ → Option ExecutionContext → List ℕ
value_text number None = []
value_text number (Some context) = joined_text (option_map (λ binding. binding.value) (look_up context.scope.now number))

-- what is asked for of the modules
abbrev pub values_text : List ExecutionContext → EvaluationTarget → List ℕ
values_text contexts (targets.Module place) = module_text (slice_get contexts place)
values_text contexts (targets.Variable place number) = value_text number (slice_get contexts place)

-- the text is answered, unless memory ran out
abbrev pub IsEvaluated : List ℕ → Result Performed TaskFault → Type 0
IsEvaluated text (Ok Ran) = ⊥
IsEvaluated text (Ok (Evaluated answer)) = string_bytes answer ≡ text
IsEvaluated text (Err fault) = fault ≡ faults.Run OutOfMemory

-- the command in the root module; nothing is done where there is none
abbrev pub CommandsIn : {H : Type 0} → (H → List Entry → H → Type 0) → Option ExecutionContext → List (List ℕ) → Record H → Result Performed TaskFault → Record H → Type 0
CommandsIn goes None words old result new = IsIdle old result new
CommandsIn goes (Some root) words old result new = Commands goes root root.config.now.dry_run words old result new

-- A run asks and hands over; values are answered, and nothing is asked; a command is handed over in the root module.
abbrev pub Does : {H : Type 0} → (H → List Entry → H → Type 0) → List ExecutionContext → Task → Record H → Result Performed TaskFault → Record H → Type 0
Does goes contexts (tasks.Run calls) old result new = AsksIn contexts goes old new
Does goes contexts (tasks.Evaluate target) old result new = IsEvaluated (values_text contexts target) result × (new ≡ old)
Does goes contexts (tasks.Command words) old result new = CommandsIn goes (slice_get contexts 0) words.now old result new
