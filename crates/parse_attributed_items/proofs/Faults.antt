-- Why reading halts, by the fault that is told.
use Rattle.std.proofs.Common.{Result, Err, Option, refl, inl, inr}
use Rattle.just_text.specs.declared.compile_error.CompileErrorKind.{CompileErrorKind}
use Rattle.just_text.specs.declared.token.Token.{Token}
use Rattle.parse_expressions.specs.declared.fault.Fault.{Fault}
use Rattle.parse_expressions.specs.declared.fault.Fault.TheVariants as faults
use Rattle.parse_expressions.specs.Reading.{◌>>=◌, Stop}
use Rattle.parse_recipes.specs.Numbering.{FailsUnless}
use Rattle.parse_attributed_items.specs.Options.{GivesOrRefuses}
use Rattle.parse_attributed_items.specs.Halting.{Halt, HaltsUnless, or_stopped, unless_broken}

-- reading stopped, so it halts
pub halts : {A B : Type 0} (used : Type 0) (e : Fault) (read : Result A (Stop Token)) (f : A → Result B (Halt Token)) → FailsUnless used e read → HaltsUnless used e (or_stopped read >>= f)
halts used faults.OutOfMemory read f h = h
halts used faults.NumbersUsed read f h = h
halts used (faults.Unexpected found) read f h = rw h refl
halts used (faults.Refused token kind) read f h = inl (rw h refl)

-- a rule is broken, so it halts
pub broken_so : {A : Type 0} (used : Type 0) (e : Fault) (fault : Option CompileErrorKind) (x : A) → (let r : Result A Fault = Err e in GivesOrRefuses r fault) → HaltsUnless used e (unless_broken fault x)
broken_so used faults.OutOfMemory fault x h = h
broken_so used faults.NumbersUsed fault x h = absurd h
broken_so used (faults.Unexpected found) fault x h = absurd h
broken_so used (faults.Refused token kind) fault x h = inr (rw h refl)
