-- What is said of calls that may find no memory.
use Rattle.std.specs.Prelude.{◌≡◌, ◌≢◌, Bool, false, Result, Ok, Err}
use Rattle.justfile_evaluator.specs.declared.fault.RunFault.{RunFault}
use Rattle.meaning_dialogues.specs.Faults.{memory}
use Rattle.meaning_runs.specs.Failures.{Failure, evaluation}
use Rattle.justfile_evaluator.specs.Ended.{failure_of}

-- how a part of a run ended, what was given seen so
abbrev pub ended_as : {A B : Type 0} → (A → B) → Result A RunFault → Result B Failure
ended_as view (Ok a) = Ok (view a)
ended_as view (Err fault) = Err (failure_of fault)

-- P holds of what was given, seen so, or of the failure, where memory sufficed
abbrev pub IfGiven : {A B : Type 0} → (A → B) → Bool → Result A RunFault → (Result B Failure → Type 0) → Type 0
IfGiven view exhausted (Ok a) P = exhausted ≡ false → P (Ok (view a))
IfGiven view exhausted (Err fault) P = exhausted ≡ false → failure_of fault ≢ evaluation memory → P (Err (failure_of fault))
