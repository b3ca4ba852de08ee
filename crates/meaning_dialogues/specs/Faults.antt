-- Why an evaluation has no value, without places: of a token its text counts alone, and where the form tells it not even that.
use Rattle.std.specs.Prelude.{ℕ, List}
use Rattle.just_text.specs.Tokens.{lexeme}
use Rattle.tree_expressions.specs.declared.operator.ListOperator.{ListOperator}
use Rattle.tree_expressions.specs.declared.operator.ConditionalOperator.{ConditionalOperator}
use Rattle.just_host.specs.declared.host.HostFault.{HostFault}
use Rattle.just_value.specs.declared.fault.ConstError.{ConstError}
use Rattle.just_value.specs.declared.fault.ConstError.TheVariants.{Backtick as BacktickOf, FunctionCall as FunctionCallOf, Variable}
use Rattle.just_value.specs.declared.fault.StringContext.{StringContext}
use Rattle.just_value.specs.declared.fault.StringContext.TheVariants.{Function, EnvKey, Setting}
use Rattle.just_value.specs.declared.fault.ConstEvalError.{ConstEvalError}
use Rattle.just_value.specs.declared.fault.ConstEvalError.TheVariants.{Assert, Const as ConstOf, EmptyInterpreter, ListInStringContext, ListOperation, PatternLeftOut}

-- what a constant may not hold: a command as it is written, a call and a variable by their names
pub data Inconstant : Type 0 where
  a_command : List ℕ → Inconstant
  a_call : List ℕ → Inconstant
  a_variable : List ℕ → Inconstant

-- where one text alone may stand: an argument of the function, the key of an attribute `env`, the setting
pub data TextPlace : Type 0 where
  argument_of : List ℕ → TextPlace
  env_key : TextPlace
  setting_of : List ℕ → TextPlace

pub data Fault : Type 0 where
  memory : Fault
  -- these are faults of constants too
  assertion_failed : List ℕ → Fault
  not_constant : Inconstant → Fault
  empty_interpreter : List ℕ → Fault
  list_in_text_place : TextPlace → List (List ℕ) → Fault
  list_operation : List (List ℕ) → ListOperator → List (List ℕ) → Fault
  pattern_left_out : ConditionalOperator → Fault
  -- a command as it is written
  command_failed : HostFault → List ℕ → Fault
  -- a built-in function, and what it says
  function_failed : List ℕ → List ℕ → Fault
  too_deep : List ℕ → Fault
  -- a recipe and its parameter
  empty_argument : List ℕ → List ℕ → Fault
  value_count : List ℕ → List ℕ → ℕ → Fault
  no_parent : List ℕ → Fault
  internal : List ℕ → Fault

abbrev pub inconstant : ConstError → Inconstant
inconstant (BacktickOf token) = a_command (lexeme token)
inconstant (FunctionCallOf name) = a_call (lexeme name.token)
inconstant (Variable name) = a_variable (lexeme name.token)

abbrev pub text_place : StringContext → TextPlace
text_place (Function name) = argument_of (lexeme name.token)
text_place (EnvKey token) = env_key
text_place (Setting name) = setting_of (lexeme name.token)

abbrev pub const_fault : ConstEvalError → Fault
const_fault (Assert message name) = assertion_failed message
const_fault (ConstOf error) = not_constant (inconstant error)
const_fault (EmptyInterpreter setting) = empty_interpreter (lexeme setting.token)
const_fault (ListInStringContext context value) = list_in_text_place (text_place context) value
const_fault (ListOperation lhs operator rhs token) = list_operation lhs operator rhs
const_fault (PatternLeftOut operator token) = pattern_left_out operator
