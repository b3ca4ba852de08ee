-- The texts of refusals.
use Rattle.std.specs.Prelude.{ℕ, List, ◌++◌, codes}
use Rattle.std.specs.Fmt.{decimal}
use Rattle.just_text.specs.Tokens.{lexeme}
use Rattle.just_text.specs.declared.name.Name.{Name}
use Rattle.just_host.specs.Faults.{fault_text}
use Rattle.just_value.specs.Faults.{const_eval_text}
use Rattle.evaluate_context.specs.declared.error.Error.{Error}
use Rattle.evaluate_context.specs.declared.error.Error.TheVariants.{OutOfMemory, Const, Backtick, FunctionCall, RecursionLimit, EmptyListArgument, ValueCount, NoParent, Internal}

abbrev pub ticked : List ℕ → List ℕ
ticked text = codes "`" ++ (text ++ codes "`")

abbrev pub ticked_name : Name → List ℕ
ticked_name name = ticked (lexeme name.token)

-- a recipe and its parameter
abbrev pub parameter_text : Name → Name → List ℕ
parameter_text recipe parameter = ticked_name recipe ++ (codes ", " ++ ticked_name parameter)

abbrev pub error_text : Error → List ℕ
error_text OutOfMemory = codes "out of memory"
error_text (Const error) = const_eval_text error
error_text (Backtick fault token) = codes "backtick: " ++ ticked (fault_text fault)
error_text (FunctionCall name message) = codes "function " ++ (ticked_name name ++ (codes " failed: " ++ message))
error_text (RecursionLimit last) = codes "recursion limit: " ++ ticked_name last
error_text (EmptyListArgument recipe parameter) = codes "empty list argument: " ++ parameter_text recipe parameter
error_text (ValueCount recipe parameter found) = codes "value count: " ++ (parameter_text recipe parameter ++ (codes ", " ++ ticked (decimal found)))
error_text (NoParent path) = codes "no parent: " ++ ticked path
error_text (Internal text) = codes "internal: " ++ ticked text
