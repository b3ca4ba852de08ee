-- The texts of refusals, and where they stand.
use Rattle.std.specs.Prelude.{ℕ, List, [], ◌++◌, ◌==◌, ◌||◌, cond, length, codes}
use Rattle.just_text.specs.Tokens.{lexeme}
use Rattle.just_text.specs.declared.token.Token.{Token}
use Rattle.just_text.specs.declared.name.Name.{Name}
use Rattle.tree_expressions.specs.Operators.{list_mark, comparison_mark}
use Rattle.tree_expressions.specs.declared.operator.ListOperator.{ListOperator}
use Rattle.just_value.specs.Values.{value_text}
use Rattle.just_value.specs.declared.fault.ConstError.{ConstError}
use Rattle.just_value.specs.declared.fault.ConstError.TheVariants.{Backtick, FunctionCall, Variable}
use Rattle.just_value.specs.declared.fault.StringContext.{StringContext}
use Rattle.just_value.specs.declared.fault.StringContext.TheVariants.{Function, EnvKey, Setting}
use Rattle.just_value.specs.declared.fault.ConstEvalError.{ConstEvalError}
use Rattle.just_value.specs.declared.fault.ConstEvalError.TheVariants.{Assert, Const, EmptyInterpreter, ListInStringContext, ListOperation, PatternLeftOut}
use Rattle.just_value.specs.declared.fault.ValueFault.{ValueFault}
use Rattle.just_value.specs.declared.fault.ValueFault.TheVariants.{OutOfMemory, Path, Const as Refused}

-- a name between backticks
abbrev pub ticked_name : Name → List ℕ
ticked_name name = codes "`" ++ (lexeme name.token ++ codes "`")

-- what a constant may not hold, in words
abbrev pub const_error_text : ConstError → List ℕ
const_error_text (Backtick token) = codes "cannot call backticks in const context"
const_error_text (FunctionCall name) = codes "cannot call functions in const context"
const_error_text (Variable name) = codes "cannot access non-const variable `" ++ (lexeme name.token ++ codes "` in const context")

-- its token, or that of the name
abbrev pub const_error_place : ConstError → Token
const_error_place (Backtick token) = token
const_error_place (FunctionCall name) = name.token
const_error_place (Variable name) = name.token

-- where one text alone may stand, in words
abbrev pub context_text : StringContext → List ℕ
context_text (Function name) = codes "used as an argument of function " ++ ticked_name name
context_text (EnvKey token) = codes "used as the key of attribute `env`"
context_text (Setting name) = codes "used as setting " ++ ticked_name name

-- its token, or that of the name
abbrev pub context_place : StringContext → Token
context_place (Function name) = name.token
context_place (EnvKey token) = token
context_place (Setting name) = name.token

-- what is added where a function would take a list
abbrev pub list_advice : StringContext → List ℕ
list_advice (Function name) = codes "\nthe behavior of lists with many built-in functions is undecided\nsee https://github.com/casey/just#lists"
list_advice (EnvKey token) = []
list_advice (Setting name) = []

-- why an operator can't be applied to two lists
abbrev pub operation_text : List (List ℕ) → ListOperator → List (List ℕ) → List ℕ
operation_text left operator right =
    codes "operator `" ++ (list_mark operator ++ (codes "` cannot be applied to "
    ++ cond (length left == 0 || length right == 0) (codes "empty lists")
    (codes "lists of different lengths: " ++ (value_text left ++ (codes " " ++ (list_mark operator ++ (codes " " ++ value_text right)))))))

-- why a constant has no value, in words
abbrev pub const_eval_text : ConstEvalError → List ℕ
const_eval_text (Assert message name) = codes "assert failed: " ++ message
const_eval_text (Const error) = const_error_text error
const_eval_text (EmptyInterpreter setting) = codes "`" ++ (lexeme setting.token ++ codes "` setting requires at least one element but evaluated to empty list")
const_eval_text (ListInStringContext context value) = codes "list value " ++ (value_text value ++ (codes " " ++ (context_text context ++ list_advice context)))
const_eval_text (ListOperation lhs operator rhs token) = operation_text lhs operator rhs
const_eval_text (PatternLeftOut operator token) = codes "operator `" ++ (comparison_mark operator ++ codes "` is left out")

-- its token, or that of the name
abbrev pub const_eval_place : ConstEvalError → Token
const_eval_place (Assert message name) = name.token
const_eval_place (Const error) = const_error_place error
const_eval_place (EmptyInterpreter setting) = setting.token
const_eval_place (ListInStringContext context value) = context_place context
const_eval_place (ListOperation lhs operator rhs token) = token
const_eval_place (PatternLeftOut operator token) = token

-- why a call is refused, in words
abbrev pub fault_text : ValueFault → List ℕ
fault_text OutOfMemory = codes "out of memory"
fault_text (Refused error) = const_eval_text error
fault_text (Path text) = text
