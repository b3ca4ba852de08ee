-- Which kinds of entries a task adds to the record.
use Rattle.std.specs.Prelude.{◌≡◌, Bool, false, Contains, List, Option, Some, None, slice_get}
use Rattle.evaluate_context.specs.declared.context.ExecutionContext.{ExecutionContext}
use Rattle.just_host.specs.Asking.{Asks}
use Rattle.just_host.specs.Kinds.{HaveQuestions, HaveRequests, HaveUser, HaveWork, Only}
use Rattle.just_host.specs.Record.{Record}
use Rattle.just_host.specs.declared.entry.Entry.{Entry}
use Rattle.run_tasks.specs.declared.task.Task.{Task}
use Rattle.run_tasks.specs.declared.task.Task.TheVariants as tasks

-- a command alone, and none in a dry run
abbrev pub AsksCommand : {H : Type 0} → Bool → (H → List Entry → H → Type 0) → Record H → Record H → Type 0
AsksCommand dry goes old new = (kinds : Entry → Bool) → (dry ≡ false → HaveWork kinds) → Asks (Only kinds goes) old new

-- what a task may add beside the questions and requests of the opening: a run asks, shows and hands over, values are told, and a command is handed over; nothing is handed over in a dry run
abbrev pub MayAdd : Task → Bool → (Entry → Bool) → Type 0
MayAdd (tasks.Run calls) dry kinds = HaveUser kinds × (dry ≡ false → HaveWork kinds)
MayAdd (tasks.Evaluate target) dry kinds = Unit {0}
MayAdd (tasks.Command words) dry kinds = dry ≡ false → HaveWork kinds

-- questions, requests for files of variables, and what the task may add
abbrev pub AsksFor : {H : Type 0} → Task → Bool → (H → List Entry → H → Type 0) → Record H → Record H → Type 0
AsksFor task dry goes old new = (kinds : Entry → Bool) → HaveQuestions kinds → HaveRequests kinds → MayAdd task dry kinds → Asks (Only kinds goes) old new

-- ---- over the contexts of the modules, each with its configuration

-- a command is handed over where the root module is of no dry run
abbrev pub RootHasWork : Option ExecutionContext → (Entry → Bool) → Type 0
RootHasWork None kinds = Unit {0}
RootHasWork (Some root) kinds = root.config.now.dry_run ≡ false → HaveWork kinds

-- a command alone, and none where the root module is of a dry run
abbrev pub AsksRoot : {H : Type 0} → Option ExecutionContext → (H → List Entry → H → Type 0) → Record H → Record H → Type 0
AsksRoot root goes old new = (kinds : Entry → Bool) → RootHasWork root kinds → Asks (Only kinds goes) old new

-- what a task may add where it goes over these contexts
abbrev pub MayAddIn : List ExecutionContext → Task → (Entry → Bool) → Type 0
MayAddIn contexts (tasks.Run calls) kinds = HaveUser kinds × ((context : ExecutionContext) → Contains contexts context → context.config.now.dry_run ≡ false → HaveWork kinds)
MayAddIn contexts (tasks.Evaluate target) kinds = Unit {0}
MayAddIn contexts (tasks.Command words) kinds = RootHasWork (slice_get contexts 0) kinds

-- questions, and what the task may add where it goes over these contexts
abbrev pub AsksOver : {H : Type 0} → List ExecutionContext → Task → (H → List Entry → H → Type 0) → Record H → Record H → Type 0
AsksOver contexts task goes old new = (kinds : Entry → Bool) → HaveQuestions kinds → MayAddIn contexts task kinds → Asks (Only kinds goes) old new
