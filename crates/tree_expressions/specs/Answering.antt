-- An answer, want of memory aside.
use Rattle.std.specs.Prelude.{◌≡◌, ℕ, List, Result, Err}
use Rattle.just_text.specs.declared.compile_error.CompileErrorKind.{CompileErrorKind}
use Rattle.just_text.specs.declared.compile_error.CompileErrorKind.TheVariants.{OutOfMemory, InvalidEscapeSequence}

-- the given answer, unless memory ran out
abbrev pub Answers : {T : Type 0} → Result T CompileErrorKind → Result T CompileErrorKind → Type 0
Answers given (Err OutOfMemory) = Unit {0}
Answers given answer = given ≡ answer

-- the refusal of this text, which is no escape, unless memory ran out
abbrev pub IsRefusal : List ℕ → CompileErrorKind → Type 0
IsRefusal bad OutOfMemory = Unit {0}
IsRefusal bad kind = kind ≡ InvalidEscapeSequence bad
