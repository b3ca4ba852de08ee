-- Refusals of evaluation, seen without places.
use Rattle.std.specs.Prelude.{Result, Ok, Err}
use Rattle.just_text.specs.Tokens.{lexeme}
use Rattle.just_value.specs.declared.fault.ValueFault.{ValueFault}
use Rattle.just_value.specs.declared.fault.ValueFault.TheVariants.{OutOfMemory as MemoryOf, Const as ConstOf, Path as PathOf}
use Rattle.evaluate_context.specs.declared.error.Error.{Error}
use Rattle.evaluate_context.specs.declared.error.Error.TheVariants.{OutOfMemory, Const, Backtick, FunctionCall, RecursionLimit, EmptyListArgument, ValueCount, NoParent, Internal}
use Rattle.meaning_dialogues.specs.Faults.{Fault, memory, const_fault, command_failed, function_failed, too_deep, empty_argument, value_count, no_parent, internal}

-- the refusal for what a value is refused for
abbrev pub error_of : ValueFault → Error
error_of MemoryOf = OutOfMemory
error_of (ConstOf error) = Const error
error_of (PathOf text) = Internal text

abbrev pub fault_of : Error → Fault
fault_of OutOfMemory = memory
fault_of (Const error) = const_fault error
fault_of (Backtick fault token) = command_failed fault (lexeme token)
fault_of (FunctionCall name message) = function_failed (lexeme name.token) message
fault_of (RecursionLimit last) = too_deep (lexeme last.token)
fault_of (EmptyListArgument recipe parameter) = empty_argument (lexeme recipe.token) (lexeme parameter.token)
fault_of (ValueCount recipe parameter found) = value_count (lexeme recipe.token) (lexeme parameter.token) found
fault_of (NoParent path) = no_parent path
fault_of (Internal text) = internal text

-- a result without places, its value seen so
abbrev pub seen_as : {A B : Type 0} → (A → B) → Result A Error → Result B Fault
seen_as view (Ok a) = Ok (view a)
seen_as view (Err error) = Err (fault_of error)

abbrev pub seen : {A : Type 0} → Result A Error → Result A Fault
seen (Ok a) = Ok a
seen (Err error) = Err (fault_of error)
