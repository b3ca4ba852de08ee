-- What came of cooking.
use Rattle.std.specs.Prelude.{ℕ, List, Result, Ok, Err}
use Rattle.just_text.specs.declared.compile_error.CompileErrorKind.{CompileErrorKind}
use Rattle.just_text.specs.declared.compile_error.CompileError.{CompileError}
use Rattle.tree_expressions.specs.declared.string_literal.StringLiteral.{StringLiteral}

-- the cooked text, or what is refused
abbrev pub cooked_of : Result StringLiteral CompileError → Result (List ℕ) CompileErrorKind
cooked_of (Ok literal) = Ok literal.cooked
cooked_of (Err error) = Err error.kind

abbrev pub kind_told : Result (List ℕ) CompileError → Result (List ℕ) CompileErrorKind
kind_told (Ok text) = Ok text
kind_told (Err error) = Err error.kind
