-- Memory's fault is that of no other error.
use Rattle.std.proofs.Common.{◌≡◌, ◌≢◌, refl}
use Rattle.just_value.specs.declared.fault.ConstEvalError.{ConstEvalError}
use Rattle.just_value.specs.declared.fault.ConstEvalError.TheVariants.{Assert, Const as ConstOf, EmptyInterpreter, ListInStringContext, ListOperation, PatternLeftOut}
use Rattle.evaluate_context.specs.Refusals.{fault_of}
use Rattle.evaluate_context.specs.declared.error.Error.{Error}
use Rattle.evaluate_context.specs.declared.error.Error.TheVariants.{OutOfMemory, Const, Backtick, FunctionCall, RecursionLimit, EmptyListArgument, ValueCount, NoParent, Internal}
use Rattle.meaning_dialogues.specs.Faults.{const_fault, memory}

not_of_constants : (error : ConstEvalError) → const_fault error ≢ memory
not_of_constants (Assert message name) e = absurd (cc)
not_of_constants (ConstOf error) e = absurd (cc)
not_of_constants (EmptyInterpreter setting) e = absurd (cc)
not_of_constants (ListInStringContext context value) e = absurd (cc)
not_of_constants (ListOperation lhs operator rhs token) e = absurd (cc)
not_of_constants (PatternLeftOut operator token) e = absurd (cc)

pub is_memory : (error : Error) → fault_of error ≡ memory → error ≡ OutOfMemory
is_memory OutOfMemory e = refl
is_memory (Const error) e = absurd (not_of_constants error e)
is_memory (Backtick fault token) e = absurd (cc)
is_memory (FunctionCall name message) e = absurd (cc)
is_memory (RecursionLimit last) e = absurd (cc)
is_memory (EmptyListArgument recipe parameter) e = absurd (cc)
is_memory (ValueCount recipe parameter found) e = absurd (cc)
is_memory (NoParent path) e = absurd (cc)
is_memory (Internal text) e = absurd (cc)
