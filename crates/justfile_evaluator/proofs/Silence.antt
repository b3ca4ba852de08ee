-- Whether nothing is said of a fault.
use Rattle.std.proofs.Common.{◌≡◌, Bool}
use Rattle.just_text.specs.declared.name.Name.{Name}
use Rattle.meaning_dialogues.specs.Faults.{Fault}
use Rattle.meaning_runs.specs.Failures.{evaluation}
use Rattle.justfile_evaluator.specs.Ended.{IfOfCommand, IsTold, failure_of}
use Rattle.justfile_evaluator.specs.declared.fault.RunFault.{RunFault}
use Rattle.justfile_evaluator.specs.declared.fault.RunFault.TheVariants.{OutOfMemory, Evaluation, Code, Signal, CouldNotStart, NotConfirmed}

-- a fault of evaluation is always told
pub evaluation_told : (P : Name → Bool → Type 0) (fault : RunFault) (f : Fault) → failure_of fault ≡ evaluation f → IfOfCommand P fault
evaluation_told P OutOfMemory f e = tt
evaluation_told P (Evaluation error) f e = tt
evaluation_told P (Code recipe code is_silent) f e = absurd (cc e)
evaluation_told P (Signal recipe signal is_silent) f e = absurd (cc e)
evaluation_told P (CouldNotStart recipe) f e = tt
evaluation_told P (NotConfirmed recipe) f e = tt

-- what holds of a command's failure holds of other faults
pub told_as : (P : Name → Bool → Type 0) (fault : RunFault) → IsTold fault → IfOfCommand P fault
told_as P OutOfMemory h = tt
told_as P (Evaluation error) h = tt
told_as P (Code recipe code is_silent) h = absurd h
told_as P (Signal recipe signal is_silent) h = absurd h
told_as P (CouldNotStart recipe) h = tt
told_as P (NotConfirmed recipe) h = tt
