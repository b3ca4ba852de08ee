-- How operators are written.
use Rattle.std.specs.Prelude.{ℕ, List, codes}
use Rattle.tree_expressions.specs.declared.operator.ConditionalOperator.{ConditionalOperator}
use Rattle.tree_expressions.specs.declared.operator.ConditionalOperator.TheVariants.{Equality, Inequality, RegexMatch, RegexMismatch}
use Rattle.tree_expressions.specs.declared.operator.ListOperator.{ListOperator}
use Rattle.tree_expressions.specs.declared.operator.ListOperator.TheVariants.{Concatenate, Join}

-- an operator that compares
abbrev pub comparison_mark : ConditionalOperator → List ℕ
comparison_mark Equality = codes "=="
comparison_mark Inequality = codes "!="
comparison_mark RegexMatch = codes "=~"
comparison_mark RegexMismatch = codes "!~"

-- an operator that joins lists
abbrev pub list_mark : ListOperator → List ℕ
list_mark Concatenate = codes "+"
list_mark Join = codes "/"

-- what stands between two texts that the operator joins
abbrev pub list_separator : ListOperator → List ℕ
list_separator Concatenate = codes ""
list_separator Join = codes "/"

-- the operators with two sides
pub data Binary : Type 0 where
  disjunction : Binary
  conjunction : Binary
  comparison : ConditionalOperator → Binary
  appending : Binary
  concatenation : Binary
  joining : Binary

-- how such an operator is written
abbrev pub mark_of : Binary → List ℕ
mark_of disjunction = codes "||"
mark_of conjunction = codes "&&"
mark_of (comparison operator) = comparison_mark operator
mark_of appending = codes "++"
mark_of concatenation = codes "+"
mark_of joining = codes "/"
