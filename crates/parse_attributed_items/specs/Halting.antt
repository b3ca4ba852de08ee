-- Where reading halts: at a token, or at a rule that is broken by what was read.
use Rattle.std.specs.Prelude.{◌≡◌, ◌⊎◌, Option, Some, None, Result, Ok, Err}
use Rattle.just_text.specs.declared.compile_error.CompileErrorKind.{CompileErrorKind}
use Rattle.just_text.specs.declared.token.Token.{Token}
use Rattle.parse_expressions.specs.declared.fault.Fault.{Fault}
use Rattle.parse_expressions.specs.declared.fault.Fault.TheVariants as faults
use Rattle.parse_expressions.specs.Reading.{Stop, unexpected, refused}

-- why reading halts; where a rule is broken, no place is told
pub data Halt (T : Type 0) : Type 0 where
  stopped : Stop T → Halt T
  broken : CompileErrorKind → Halt T

-- what is read, or where it stopped
abbrev pub or_stopped : {A T : Type 0} → Result A (Stop T) → Result A (Halt T)
or_stopped (Ok x) = Ok x
or_stopped (Err stop) = Err (stopped stop)

-- what was read, unless it breaks a rule
abbrev pub unless_broken : {A T : Type 0} → Option CompileErrorKind → A → Result A (Halt T)
unless_broken None x = Ok x
unless_broken (Some kind) x = Err (broken kind)

-- reading halts with that fault, unless memory ran out, or numbers did
abbrev pub HaltsUnless : {Y : Type 0} → Type 0 → Fault → Result Y (Halt Token) → Type 0
HaltsUnless used faults.OutOfMemory read = Unit {0}
HaltsUnless used faults.NumbersUsed read = used
HaltsUnless used (faults.Unexpected found) read = read ≡ Err (stopped (unexpected found))
HaltsUnless used (faults.Refused token kind) read = (read ≡ Err (stopped (refused token kind))) ⊎ (read ≡ Err (broken kind))

-- What a function that hands out numbers returned, seen by view, is what reading gives, unless memory ran out, or numbers did.
abbrev pub GivesOrHalts : {X Y : Type 0} → Type 0 → (X → Y) → Result X Fault → Result Y (Halt Token) → Type 0
GivesOrHalts used view (Ok x) read = read ≡ Ok (view x)
GivesOrHalts used view (Err e) read = HaltsUnless used e read
