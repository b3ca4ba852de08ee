-- What the place of a call alone determines.
use Rattle.std.proofs.Common.{◌≡◌, Result, Ok, Err, refl, ap}
use Rattle.evaluate_context.specs.declared.error.Error.TheVariants.{OutOfMemory}
use Rattle.meaning_dialogues.specs.Evaluation.{Value}
use Rattle.meaning_dialogues.specs.Faults.{Fault}
use Rattle.evaluate_builtins.specs.Places.{IsSaid}

pub value_said : (said value : Value) → value ≡ said → IsSaid (Ok said) (Ok value)
value_said said value e = record { is = λ n. ap (λ v. Ok v) e }

pub memory_said : (said : Result Value Fault) → IsSaid said (Err OutOfMemory)
memory_said said = record { is = λ n. absurd (n refl) }
