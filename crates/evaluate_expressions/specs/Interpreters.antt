-- Interpreters as words.
use Rattle.std.specs.Prelude.{ℕ, List}
use Rattle.tree_attributes.specs.declared.setting.Interpreter.{Interpreter}

-- the command and its arguments
abbrev pub words_of : Interpreter (List ℕ) → List ℕ × List (List ℕ)
words_of interpreter = (interpreter.command, interpreter.arguments.items)
