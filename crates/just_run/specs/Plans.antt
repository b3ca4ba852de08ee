-- What a plan of a run does.
use Rattle.std.specs.Prelude.{◌≡◌, ◌++◌, ◌⊎◌, ℕ, Bool, true, false, List, Result, Ok, Err}
use Rattle.just_host.specs.Record.{Record}
use Rattle.just_host.specs.Follows.{Follows, questions}
use Rattle.just_host.specs.declared.entry.Entry.{Entry}
use Rattle.just_host.specs.Out.{IsPartOf}
use Rattle.run_plan.specs.Plans.{plan_text}
use Rattle.just_run.specs.Writes.{IsKept, GrewBy}
use Rattle.just_run.specs.declared.fault.Fault.{Fault}
use Rattle.just_run.specs.declared.fault.Fault.TheVariants as faults
use Rattle.run_tasks.specs.declared.action.Action.{Action}
use Rattle.run_tasks.specs.declared.action.Action.TheVariants as actions
use Rattle.just_run.specs.declared.outcome.Outcome.{Outcome}
use Rattle.just_run.specs.declared.outcome.Outcome.TheVariants as outcomes

-- a fault that a run may end with, once no rule of files and words is broken
abbrev pub IsOfRun : Fault → Type 0
IsOfRun (faults.NoRootForWord word) = ⊥
IsOfRun (faults.Justfile error) = ⊥
IsOfRun (faults.Words fault) = ⊥
IsOfRun (faults.NotPrintable path) = ⊥
IsOfRun faults.Write = ⊥
IsOfRun fault = Unit {0}

-- how what was planned ended
abbrev pub IsEnd : Result Outcome Fault → Type 0
IsEnd (Ok outcome) = outcome ≡ outcomes.Planned
IsEnd (Err fault) = IsOfRun fault

-- the plan went out; or the output took no more after a beginning of it; or memory ran out, and nothing went out
abbrev pub IsSent : {T : Type 0} → List ℕ → List ℕ → Result T Fault → List ℕ → Type 0
IsSent old plan (Ok sent) new = new ≡ old ++ plan
IsSent old plan (Err fault) new = ((fault ≡ faults.Write) × IsPartOf old plan new) ⊎ ((fault ≡ faults.OutOfMemory) × (new ≡ old))

-- The plan went out, and that is answered; or the output took no more after a beginning of it; or memory ran out, and nothing
-- went out; or the run failed, and the plan of what came before that went out.
abbrev pub IsWrittenPlan : List ℕ → List ℕ → Result Outcome Fault → List ℕ → Type 0
IsWrittenPlan old plan (Ok outcome) new = (outcome ≡ outcomes.Planned) × (new ≡ old ++ plan)
IsWrittenPlan old plan (Err fault) new = ((fault ≡ faults.Write) × IsPartOf old plan new) ⊎ (((fault ≡ faults.OutOfMemory) × (new ≡ old)) ⊎ (IsOfRun fault × (new ≡ old ++ plan)))

-- the caller's record grew by the questions alone of what the run asked and handed over, of which the plan is written
pub record IsPlanned {H : Type 0} (goes : H → List Entry → H → Type 0) (old : Record H) (before : List ℕ) (result : Result Outcome Fault) (new : Record H) (behind : List ℕ) : Type 0 where
  pub entries : List Entry
  pub asked : Follows goes old (questions entries) new
  pub written : IsWrittenPlan before (plan_text entries) result behind

-- another answer than that of a plan
abbrev pub IsOther : Result Outcome Fault → Type 0
IsOther (Ok outcomes.Planned) = ⊥
IsOther answer = Unit {0}

-- a run was planned; or the call was refused or the list of recipes written, and nothing was asked
abbrev pub Plans : {H : Type 0} → (H → List Entry → H → Type 0) → Record H → List ℕ → Result Outcome Fault → Record H → List ℕ → Type 0
Plans goes old before result new behind = (IsOther result × (new ≡ old)) ⊎ IsPlanned goes old before result new behind

-- nothing went out after a refusal, unless the output took no more, or a run failed whose plan went out
abbrev pub IsKeptBy : Action → List ℕ → Fault → List ℕ → Type 0
IsKeptBy action old fault new = IsKept old fault new ⊎ ((action ≡ actions.Plan) × (IsOfRun fault × GrewBy old new))
