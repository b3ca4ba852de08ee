-- The operators of the parser as the grammar sees them.
use Rattle.tree_expressions.specs.Operators.{Binary, disjunction, conjunction, comparison, appending, concatenation, joining}
use Rattle.parse_expressions.specs.declared.operator.Operator.{Operator}
use Rattle.parse_expressions.specs.declared.operator.Operator.TheVariants.{And, Comparison, Concatenation, Join, ListConcatenation, Or}
use Rattle.parse_expressions.specs.declared.operator.Prefix.{Prefix}
use Rattle.parse_expressions.specs.declared.operator.Prefix.TheVariants.{Join as JoinPrefix, Not}
use Rattle.parse_expressions.specs.Reading.{Prefix as PrefixSeen, bang, slash}

abbrev pub operator_seen : Operator → Binary
operator_seen And = conjunction
operator_seen (Comparison operator) = comparison operator
operator_seen Concatenation = concatenation
operator_seen Join = joining
operator_seen ListConcatenation = appending
operator_seen Or = disjunction

abbrev pub prefix_seen : Prefix → PrefixSeen
prefix_seen Not = bang
prefix_seen JoinPrefix = slash
