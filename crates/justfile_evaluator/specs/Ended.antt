-- How a body ends: its faults as failures of its recipe.
use Rattle.std.specs.Prelude.{◌≡◌, Bool, true, false, Result, Ok, Err}
use Rattle.just_text.specs.Tokens.{lexeme}
use Rattle.just_text.specs.declared.name.Name.{Name}
use Rattle.evaluate_context.specs.Refusals.{fault_of}
use Rattle.meaning_dialogues.specs.Faults.{memory}
use Rattle.meaning_runs.specs.Failures.{Failure, by_code, by_signal, not_started, not_confirmed, evaluation, Next, goes_on, stops}
use Rattle.justfile_evaluator.specs.declared.fault.RunFault.{RunFault}
use Rattle.justfile_evaluator.specs.declared.fault.RunFault.TheVariants.{OutOfMemory, Evaluation, Code, Signal, CouldNotStart, NotConfirmed}

-- the failure of a recipe for its fault
abbrev pub failure_of : RunFault → Failure
failure_of OutOfMemory = evaluation memory
failure_of (Evaluation error) = evaluation (fault_of error)
failure_of (Code recipe code is_silent) = by_code (lexeme recipe.token) code
failure_of (Signal recipe signal is_silent) = by_signal (lexeme recipe.token) signal
failure_of (CouldNotStart recipe) = not_started (lexeme recipe.token)
failure_of (NotConfirmed recipe) = not_confirmed (lexeme recipe.token)

-- P holds of the recipe of a command's failure and of whether nothing is said of it; other faults are always told
abbrev pub IfOfCommand : (Name → Bool → Type 0) → RunFault → Type 0
IfOfCommand P OutOfMemory = Unit {0}
IfOfCommand P (Evaluation error) = Unit {0}
IfOfCommand P (Code recipe code is_silent) = P recipe is_silent
IfOfCommand P (Signal recipe signal is_silent) = P recipe is_silent
IfOfCommand P (CouldNotStart recipe) = Unit {0}
IfOfCommand P (NotConfirmed recipe) = Unit {0}

-- a command's failure is that of the recipe with this name, and whether nothing is said of it is this
abbrev pub SaysSo : Name → Bool → RunFault → Type 0
SaysSo name silent = IfOfCommand (λ recipe is_silent. (recipe ≡ name) × (is_silent ≡ silent))

-- a fault that is no command's failure
abbrev pub IsTold : RunFault → Type 0
IsTold = IfOfCommand (λ recipe is_silent. ⊥)

-- how a body ends
abbrev pub ended : Result (Unit {0}) RunFault → Result (Unit {0}) Failure
ended (Ok done) = Ok tt
ended (Err fault) = Err (failure_of fault)

-- whether a body goes on after a command
abbrev pub next_of : Result Bool RunFault → Result Next Failure
next_of (Ok true) = Ok goes_on
next_of (Ok false) = Ok stops
next_of (Err fault) = Err (failure_of fault)
