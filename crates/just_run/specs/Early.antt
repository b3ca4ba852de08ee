-- What a call leaves that names a broken rule.
use Rattle.std.specs.Prelude.{◌≡◌, ◌⊎◌, ℕ, List}
use Rattle.just_host.specs.Record.{Record}
use Rattle.just_run.specs.Plans.{IsOfRun}
use Rattle.just_run.specs.declared.fault.Fault.{Fault}
use Rattle.just_run.specs.declared.fault.Fault.TheVariants as faults
use Rattle.just_run.specs.declared.fault.Fault.TheVariants.{Write}

-- a fault that may come once no rule of files and words is broken: of a run, or of the output
abbrev pub IsLate : Fault → Type 0
IsLate fault = (fault ≡ Write) ⊎ IsOfRun fault

-- a fault of no rule of files, names and words: of a run, of the output, or of a text that can't be printed
abbrev pub IsOfNoRule : Fault → Type 0
IsOfNoRule (faults.NoRootForWord word) = ⊥
IsOfNoRule (faults.Justfile error) = ⊥
IsOfNoRule (faults.Words fault) = ⊥
IsOfNoRule fault = Unit {0}

-- any other fault names a broken rule: then nothing was asked, nothing handed over and nothing written
abbrev pub IsEarly : {H : Type 0} → Fault → Record H → List ℕ → Record H → List ℕ → Type 0
IsEarly fault old before new behind = IsLate fault ⊎ ((new ≡ old) × (behind ≡ before))
