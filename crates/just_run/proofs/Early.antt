-- What a call leaves that names a broken rule.
use Rattle.std.proofs.Common.{◌≡◌, ℕ, List, Bool, true, false, Result, Ok, Err, IfErr, inl, inr, refl, sym, subst}
use Rattle.just_host.specs.Record.{Record}
use Rattle.just_host.specs.declared.entry.Entry.{Entry}
use Rattle.just_run.specs.Early.{IsEarly, IsLate, IsOfNoRule}
use Rattle.just_run.specs.Plans.{IsOfRun, IsPlanned, IsWrittenPlan}
use Rattle.just_run.specs.Writes.{IsKept}
use Rattle.just_run.specs.declared.fault.Fault.{Fault}
use Rattle.just_run.specs.declared.fault.Fault.TheVariants as faults
use Rattle.just_run.specs.declared.outcome.Outcome.{Outcome}

-- a fault that comes once no rule is broken is of none
of_run : (fault : Fault) → IsOfRun fault → IsOfNoRule fault
of_run (faults.NoRootForWord word) h = absurd h
of_run (faults.Justfile error) h = absurd h
of_run (faults.Words fault) h = absurd h
of_run (faults.NotPrintable path) h = absurd h
of_run faults.Write h = absurd h
of_run faults.OutOfMemory h = tt
of_run (faults.Dotenv fault) h = tt
of_run (faults.Opening error) h = tt
of_run (faults.Evaluation error) h = tt
of_run (faults.Code recipe code silent) h = tt
of_run (faults.Signal recipe signal silent) h = tt
of_run (faults.CouldNotStart recipe) h = tt
of_run (faults.NotConfirmed recipe) h = tt
of_run (faults.Command fault) h = tt

late_unruled : (fault : Fault) → IsLate fault → IsOfNoRule fault
late_unruled fault late = elim late [ inl e ↦ subst IsOfNoRule (sym e) tt | inr run ↦ of_run fault run ]

pub late_are_unruled : (result : Result Outcome Fault) → IfErr result IsLate → IfErr result IsOfNoRule
late_are_unruled (Ok outcome) h = tt
late_are_unruled (Err fault) h = late_unruled fault h

-- what asked nothing and kept what was written
pub kept_is_early : {H : Type 0} (old : Record H) (before : List ℕ) (result : Result Outcome Fault) (behind : List ℕ)
    → IfErr result (λ fault. IsKept before fault behind) → IfErr result (λ fault. IsEarly fault old before old behind)
kept_is_early old before (Ok outcome) behind h = tt
kept_is_early old before (Err fault) behind h = elim h [ inl same ↦ inr (refl, same) | inr part ↦ inl (inl part.0) ]

-- how a written plan ends
pub written_is_late : (before plan : List ℕ) (fault : Fault) (behind : List ℕ) → IsWrittenPlan before plan (Err fault) behind → IsLate fault
written_is_late before plan fault behind h = elim h [
  | inl part ↦ inl part.0
  | inr more ↦ elim more [ inl none ↦ inr (subst IsOfRun (sym none.0) tt) | inr whole ↦ inr whole.0 ]
]

pub planned_is_early : {H : Type 0} (goes : H → List Entry → H → Type 0) (old : Record H) (before : List ℕ) (result : Result Outcome Fault) (new : Record H) (behind : List ℕ)
    → IsPlanned goes old before result new behind → IfErr result (λ fault. IsEarly fault old before new behind)
planned_is_early goes old before (Ok outcome) new behind h = tt
planned_is_early goes old before (Err fault) new behind h = inl (written_is_late before _ fault behind h.written)

pub planned_is_unruled : {H : Type 0} (goes : H → List Entry → H → Type 0) (old : Record H) (before : List ℕ) (result : Result Outcome Fault) (new : Record H) (behind : List ℕ)
    → IsPlanned goes old before result new behind → IfErr result IsOfNoRule
planned_is_unruled goes old before (Ok outcome) new behind h = tt
planned_is_unruled goes old before (Err fault) new behind h = late_unruled fault (written_is_late before _ fault behind h.written)

-- a fault of a run
pub late_is_early : {H : Type 0} (old : Record H) (before : List ℕ) (result : Result Outcome Fault) (new : Record H) (behind : List ℕ)
    → IfErr result IsLate → IfErr result (λ fault. IsEarly fault old before new behind)
late_is_early old before (Ok outcome) new behind h = tt
late_is_early old before (Err fault) new behind h = inl h
