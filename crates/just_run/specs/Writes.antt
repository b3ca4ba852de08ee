-- What was written.
use Rattle.std.specs.Prelude.{◌≡◌, ◌++◌, ◌+◌, ◌<◌, ◌^◌, ◌⊎◌, ℕ, List, Result, Ok, Err}
use Rattle.just_host.specs.Out.{IsPartOf, Sent}
use Rattle.just_run.specs.declared.fault.Fault.{Fault}
use Rattle.just_run.specs.declared.fault.Fault.TheVariants.{OutOfMemory, Write}
use Rattle.just_run.specs.declared.outcome.Outcome.{Outcome}

-- a text went out
pub record GrewBy (old new : List ℕ) : Type 0 where
  pub sent : List ℕ
  pub bytes : new ≡ old ++ sent

-- nothing went out after a refusal, unless the output took no more
abbrev pub IsKept : List ℕ → Fault → List ℕ → Type 0
IsKept old fault new = (new ≡ old) ⊎ ((fault ≡ Write) × GrewBy old new)

-- a write failed exactly where the answer is that one did
abbrev pub WriteFails : {T : Type 0} → ℕ → Result T Fault → ℕ → Type 0
WriteFails old (Ok answer) new = new ≡ old
WriteFails old (Err Write) new = old + 1 < 2 ^ 64 → new ≡ old + 1
WriteFails old (Err fault) new = new ≡ old

-- any fault but that a write failed
abbrev pub IsNoWrite : Fault → Type 0
IsNoWrite Write = ⊥
IsNoWrite fault = Unit {0}

-- The text went out, and the outcome is answered; or the output took no more after a beginning, which counts as one failure; or memory ran out, and nothing went out.
abbrev pub Writes : Sent → List ℕ → Outcome → Result Outcome Fault → Sent → Type 0
Writes old text outcome (Ok answer) new = (answer ≡ outcome) × (new.written ≡ old.written ++ text) × (new.failed ≡ old.failed)
Writes old text outcome (Err Write) new = IsPartOf old.written text new.written × (old.failed + 1 < 2 ^ 64 → new.failed ≡ old.failed + 1)
Writes old text outcome (Err OutOfMemory) new = (new.written ≡ old.written) × (new.failed ≡ old.failed)
Writes old text outcome (Err fault) new = ⊥
