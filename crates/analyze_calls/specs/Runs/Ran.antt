-- What is said of calls that may find no memory.
use Rattle.std.specs.Prelude.{◌≡◌, ◌≢◌, ℕ, Bool, false, Option, Some, None, Result, Ok, Err}
use Rattle.justfile_evaluator.specs.declared.fault.RunFault.{RunFault}
use Rattle.meaning_dialogues.specs.Faults.{memory}
use Rattle.meaning_runs.specs.Failures.{Failure, evaluation}
use Rattle.justfile_evaluator.specs.Ended.{IfOfCommand, failure_of}
use Rattle.justfile_evaluator.specs.Sites.{is_silent}
use Rattle.evaluate_context.specs.declared.context.ExecutionContext.{ExecutionContext}
use Rattle.analyze_calls.specs.Placed.{placed_in}
use Rattle.analyze_calls.specs.declared.plan.Planned.{Planned}
use Rattle.analyze_calls.specs.declared.plan.Runner.{Runner}

-- P holds of how it ended, where memory sufficed
abbrev pub IfRan : Bool → Result (Unit {0}) RunFault → (Option Failure → Type 0) → Type 0
IfRan exhausted (Ok done) P = exhausted ≡ false → P None
IfRan exhausted (Err fault) P = exhausted ≡ false → failure_of fault ≢ evaluation memory → P (Some (failure_of fault))

-- P holds where it went on, and Q of a failure, where memory sufficed
abbrev pub IfTurned : Bool → Result (Unit {0}) RunFault → Type 0 → (Failure → Type 0) → Type 0
IfTurned exhausted (Ok done) P Q = exhausted ≡ false → P
IfTurned exhausted (Err fault) P Q = exhausted ≡ false → failure_of fault ≢ evaluation memory → Q (failure_of fault)

-- a command's failure is that of a recipe of the run, and nothing is said of it where that recipe's attributes and its module's settings say so
abbrev pub SaysIn : Runner → RunFault → Type 0
SaysIn runner = IfOfCommand (λ recipe silent. (place : ℕ) × (planned : Planned) × (context : ExecutionContext) × (placed_in runner place ≡ Some (planned, context))
    × (recipe ≡ planned.recipe.now.name) × (silent ≡ is_silent context.module.now.settings.now planned.recipe.now.attributes))
