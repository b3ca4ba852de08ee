-- Ends of runs, and calls by their names.
use Rattle.std.proofs.Common.{◌≡◌, refl, sym, ap₂, List, [], ◌∷◌, map, Option, Some, None, ℕ}
use Rattle.std.specs.Prelude.{Contains, IfSome}
use Rattle.std.specs.List.{AllByRecursion}
use Rattle.analyze_calls.specs.Calls.{CallRow, row_of, rows}
use Rattle.analyze_calls.specs.declared.call.Call.{Call}
use Rattle.run_tasks.specs.Performed.{end_of}
use Rattle.meaning_runs.specs.Failures.{Failure}
use Rattle.meaning_rules.proofs.Worlds.Places.{contains_first, contains_later}
use Rattle.just_meaning.specs.Runs.{Outcome}
use Rattle.just_meaning.specs.Runs as by_name
use Rattle.meaning_evaluation.specs.Named.{RecipeName}
use Rattle.meaning_evaluation.specs.Named as named_calls
use Rattle.laws_runs.specs.Running.Running.{IsToldEnd, outcome_of}
use Rattle.laws_runs.specs.Running.Steps.{IsTold}

-- how a run by places ends is how it ends by names
pub same_outcome : {Rule : Type 0} (failure : Option Failure) → ◌≡◌ {A = Outcome Rule} (by_name.outcome_of failure) (outcome_of (end_of failure))
same_outcome None = refl
same_outcome (Some failure) = refl

pub told_failure : (failure : Option Failure) → IsToldEnd (end_of failure) → IfSome failure IsTold
told_failure None told = tt
told_failure (Some failure) told = told

-- the recipes of calls by their names
pub same_called : (name : ℕ → RecipeName) (call_of : CallRow → named_calls.Call) → ((call : CallRow) → (call_of call).recipe ≡ name call.recipe) → (calls : List Call)
    → map name (map (λ (call : Call). call.recipe) calls) ≡ map (λ (call : named_calls.Call). call.recipe) (map call_of (rows calls))
same_called name call_of same [] = refl
same_called name call_of same (call ∷ calls) = ap₂ (λ r rs. r ∷ rs) (sym (same (row_of call))) (same_called name call_of same calls)

-- each call is of what is called
pub each_called : (P : CallRow → Type 0) (calls : List Call) → ((call : Call) → Contains calls call → P (row_of call)) → AllByRecursion P (rows calls)
each_called P [] each = tt
each_called P (call ∷ calls) each = (each call (contains_first call calls), each_called P calls (λ c there. each c (contains_later call calls c there)))
