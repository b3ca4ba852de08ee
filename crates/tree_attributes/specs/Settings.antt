-- Settings: what they say, and how they are printed.
use Rattle.std.specs.Prelude.{ℕ, Bool, true, false, List, ◌++◌, map, codes}
use Rattle.std.specs.List.{flat_map}
use Rattle.tree_expressions.specs.declared.expression.Expression.{Expression}
use Rattle.tree_attributes.specs.declared.setting.Interpreter.{Interpreter}
use Rattle.tree_attributes.specs.declared.setting.Setting.{Setting}
use Rattle.tree_attributes.specs.declared.setting.Setting.TheVariants.{DotenvCommand, DotenvFilename, DotenvPath, Indentation, MinimumVersion, ScriptInterpreter, Shell, Tempdir, Truth, WindowsShell, WorkingDirectory}
use Rattle.tree_expressions.specs.Shape.{Shape, shape_of, written}
use Rattle.tree_expressions.specs.Printing.{text_of}

-- a command and its arguments
pub record InterpreterShape : Type 0 where
  pub command : Shape
  pub arguments : List Shape

abbrev pub interpreter_shape : Interpreter Expression → InterpreterShape
interpreter_shape i = record { command = shape_of i.command; arguments = map shape_of i.arguments.items }

abbrev pub comma_expression : Shape → List ℕ
comma_expression e = codes ", " ++ text_of e

-- expressions, each after a comma and a space
abbrev pub elements_text : List Shape → List ℕ
elements_text es = flat_map comma_expression es

abbrev pub interpreter_text : InterpreterShape → List ℕ
interpreter_text i = codes "[" ++ text_of i.command ++ elements_text i.arguments ++ codes "]"

-- a value in one of the four forms; a string as it is written
pub data ValueShape : Type 0 where
  truth : Bool → ValueShape
  expression : Shape → ValueShape
  interpreter : InterpreterShape → ValueShape
  string : List ℕ → ValueShape

-- the form of each setting's value
abbrev pub value_shape : Setting → ValueShape
value_shape (Truth which value) = truth value
value_shape (DotenvCommand value) = expression (shape_of value)
value_shape (DotenvFilename value) = expression (shape_of value)
value_shape (DotenvPath value) = expression (shape_of value)
value_shape (Indentation value) = string (written value)
value_shape (MinimumVersion value) = string (written value)
value_shape (ScriptInterpreter value) = interpreter (interpreter_shape value)
value_shape (Shell value) = interpreter (interpreter_shape value)
value_shape (Tempdir value) = expression (shape_of value)
value_shape (WindowsShell value) = interpreter (interpreter_shape value)
value_shape (WorkingDirectory value) = expression (shape_of value)

abbrev pub truth_text : Bool → List ℕ
truth_text true = codes "true"
truth_text false = codes "false"

abbrev pub value_text : ValueShape → List ℕ
value_text (truth value) = truth_text value
value_text (expression e) = text_of e
value_text (interpreter i) = interpreter_text i
value_text (string s) = s

-- a setting's name and its value; one without a value is true
pub record SetShape : Type 0 where
  pub name : List ℕ
  pub value : ValueShape

abbrev pub set_text : SetShape → List ℕ
set_text s = codes "set " ++ s.name ++ codes " := " ++ value_text s.value
