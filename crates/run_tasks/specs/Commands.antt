-- The one command that the words of a call are.
use Rattle.std.specs.Prelude.{◌≡◌, ◌≢◌, ◌⊎◌, ℕ, Bool, true, false, List, [], ◌∷◌, Some, None, Result, Ok, Err}
use Rattle.just_host.specs.Record.{Record}
use Rattle.just_host.specs.Follows.{Follows}
use Rattle.just_host.specs.declared.entry.Entry.{Entry}
use Rattle.just_host.specs.declared.entry.Entry.TheVariants.{Line}
use Rattle.just_host.specs.declared.host.Status.{Status}
use Rattle.just_host.specs.declared.host.Status.TheVariants as ends
use Rattle.just_host.specs.declared.job.CommandJob.{CommandJob}
use Rattle.just_value.specs.Frames.{Frames}
use Rattle.evaluate_context.specs.Surroundings.{surroundings_of, standing_in, job_in}
use Rattle.evaluate_context.specs.declared.context.ExecutionContext.{ExecutionContext}
use Rattle.justfile_evaluator.specs.declared.fault.RunFault.TheVariants.{OutOfMemory}
use Rattle.run_tasks.specs.declared.fault.TaskFault.{TaskFault}
use Rattle.run_tasks.specs.declared.fault.TaskFault.TheVariants.{Run, Command, Opening}
use Rattle.run_tasks.specs.declared.task.Performed.{Performed}
use Rattle.run_tasks.specs.declared.task.Performed.TheVariants.{Ran}

-- an empty frame inside a module's
abbrev pub inside : Frames → Frames
inside frames = record { own = []; outer = frames.own ∷ frames.outer }

-- The job of a command and the words after it: it has no shell, and the environment and the folder of the module.
abbrev pub words_job : ExecutionContext → List ℕ → List (List ℕ) → CommandJob
words_job context command words =
    record (job_in (surroundings_of context) (standing_in context [] (inside context.scope.now) false None) (Some (surroundings_of context).folder) command words) { shell = [] }

-- whether nothing is to be said of a command that ended so, where the module has no exit message or has one
abbrev pub is_unsaid : Bool → Status → Bool
is_unsaid no_exit_message (ends.Code code) = no_exit_message
is_unsaid no_exit_message (ends.Signal signal) = no_exit_message
is_unsaid no_exit_message ends.NotStarted = false

-- A command that ended with code 0 ran; one that ended otherwise failed, or memory ran out for the fault.
abbrev pub IsEnd : Bool → List ℕ → Status → Result Performed TaskFault → Type 0
IsEnd no_exit_message command status (Ok performed) = (status ≡ ends.Code 0) × (performed ≡ Ran)
IsEnd no_exit_message command status (Err (Command fault)) =
    (status ≢ ends.Code 0) × (fault ≡ record { word = command; status = status; is_silent = is_unsaid no_exit_message status })
IsEnd no_exit_message command status (Err (Opening fault)) = ⊥
IsEnd no_exit_message command status (Err (Run fault)) = (status ≢ ends.Code 0) × (fault ≡ OutOfMemory)

-- all is well, and nothing was handed over
abbrev pub IsIdle : {H : Type 0} → Record H → Result Performed TaskFault → Record H → Type 0
IsIdle old result new = (result ≡ Ok Ran) × (new ≡ old)

-- memory ran out, and nothing was handed over
abbrev pub RanOut : {H : Type 0} → Record H → Result Performed TaskFault → Record H → Type 0
RanOut old result new = (result ≡ Err (Run OutOfMemory)) × (new ≡ old)

-- the command was handed over as one job, and the answer is how it ended
pub record HandsOver {H : Type 0} (goes : H → List Entry → H → Type 0) (context : ExecutionContext) (command : List ℕ) (words : List (List ℕ)) (old : Record H) (result : Result Performed TaskFault) (new : Record H) : Type 0 where
  pub status : Status
  pub followed : Follows goes old (Line (words_job context command words) status ∷ []) new
  pub ended : IsEnd context.module.now.settings.now.no_exit_message command status result

-- In a dry run, or without words, nothing is handed over; else the words are, as one command, unless memory ran out before.
abbrev pub Commands : {H : Type 0} → (H → List Entry → H → Type 0) → ExecutionContext → Bool → List (List ℕ) → Record H → Result Performed TaskFault → Record H → Type 0
Commands goes context is_dry [] old result new = IsIdle old result new
Commands goes context true (command ∷ words) old result new = IsIdle old result new
Commands goes context false (command ∷ words) old result new = RanOut old result new ⊎ HandsOver goes context command words old result new
