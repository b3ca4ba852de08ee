-- What the rules of files say of calls of functions, in the variables that open.
use Rattle.std.specs.Prelude.{◌≡◌, ℕ, List, [], Some, None, Contains, length}
use Rattle.tree_expressions.specs.Shape.{Shape}
use Rattle.meaning_rules.specs.Naming.{a_call, occurrences}
use Rattle.meaning_evaluation.specs.Named.{VariableName, VariableRow, FunctionRow, Definitions}
use Rattle.just_meaning.specs.Reading.{Reaches, function_row}

-- Each call of a function that a variable of a kind reaches gets as many arguments as the function has parameters, unless the variable is overridden.
pub record AreFit (defined : Definitions) (Open : VariableName → Type 0) : Type 0 where
  pub fits : (x : VariableName) (row : VariableRow) (inner : Shape) (others : List (List ℕ)) (name : List ℕ) (count : ℕ) (f : FunctionRow) → Open x → defined.variable x ≡ Some row → defined.override x ≡ None
      → Reaches (defined.functions x.path) row.value [] inner others → Contains (occurrences inner) (a_call name count) → function_row name (defined.functions x.path) ≡ Some f → count ≡ length f.parameters

-- Each name of a kind has a variable.
pub record AreVariables (defined : Definitions) (Open : VariableName → Type 0) : Type 0 where
  pub stands : (x : VariableName) → Open x → (row : VariableRow) × (defined.variable x ≡ Some row)
