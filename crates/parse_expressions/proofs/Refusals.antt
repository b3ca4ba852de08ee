-- What is refused at a token has no cooked text, for the reason that is told.
use Rattle.std.proofs.Common.{◌≡◌, ◌≢◌, ℕ, List, Result, Err, refl}
use Rattle.just_text.specs.Tokens.{word_of}
use Rattle.just_text.specs.declared.compile_error.CompileErrorKind.{CompileErrorKind}
use Rattle.just_text.specs.declared.compile_error.CompileErrorKind.TheVariants as kinds
use Rattle.just_text.specs.declared.token.Token.{Token}
use Rattle.tree_expressions.specs.Answering.{Answers}
use Rattle.parse_expressions.specs.declared.fault.Fault.{Fault}
use Rattle.parse_expressions.specs.declared.fault.Fault.TheVariants as faults
use Rattle.parse_expressions.specs.Reading.{Fails, taken_if}

pub told : (token : Token) (kind : CompileErrorKind) (fault : Fault) (given : Result (List ℕ) CompileErrorKind)
    → (kind ≡ kinds.OutOfMemory → fault ≡ faults.OutOfMemory) → (kind ≢ kinds.OutOfMemory → fault ≡ faults.Refused token kind)
    → Answers given (Err kind) → Fails fault (taken_if word_of token given)
told token kinds.OutOfMemory fault given memory why h = rw (memory refl) tt
told token kind fault given memory why h = rw (why (λ e. absurd cc), h) refl
