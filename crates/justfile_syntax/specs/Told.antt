-- What the parts of a parser answer.
use Rattle.std.specs.Prelude.{◌≡◌, List, Some, None, Result, Ok, Err}
use Rattle.just_text.specs.declared.compile_error.CompileError.{CompileError}
use Rattle.just_text.specs.declared.compile_error.CompileErrorKind.{CompileErrorKind}
use Rattle.just_text.specs.declared.compile_error.CompileErrorKind.TheVariants as kinds
use Rattle.just_text.specs.declared.token.Token.{Token}
use Rattle.tree_items.specs.Files.{ItemShape}
use Rattle.parse_expressions.specs.declared.fault.Fault.{Fault}
use Rattle.parse_expressions.specs.declared.fault.Fault.TheVariants as faults
use Rattle.parse_attributed_items.specs.Halting.{Halt}
use Rattle.justfile_syntax.specs.Files.{Entry, items_in}
use Rattle.justfile_syntax.specs.Parsed.{IsTooFew, last_token}

-- the items of the entries that are read
abbrev pub items_read : {T : Type 0} → Result (List Entry) (Halt T) → Result (List ItemShape) (Halt T)
items_read (Ok es) = Ok (items_in es)
items_read (Err halt) = Err halt

-- A refusal of a token with that kind. No rule is broken for want of numbers; such a refusal would be given as want of memory.
abbrev pub IsRefused : Token → CompileErrorKind → CompileError → Type 0
IsRefused token kinds.NumbersUsed e = e.kind ≡ kinds.OutOfMemory
IsRefused token kind e = (e.token ≡ token) × (e.kind ≡ kind)

-- the refusal that tells this fault of reading the tokens
abbrev pub Tells : List Token → Fault → CompileError → Type 0
Tells tokens faults.OutOfMemory e = e.kind ≡ kinds.OutOfMemory
Tells tokens faults.NumbersUsed e = e.kind ≡ kinds.NumbersUsed
Tells tokens (faults.Unexpected None) e = IsTooFew (last_token tokens) e.token e.kind
Tells tokens (faults.Unexpected (Some token)) e = (e.token ≡ token) × (e.kind ≡ kinds.UnexpectedToken token.kind)
Tells tokens (faults.Refused token kind) e = IsRefused token kind e
