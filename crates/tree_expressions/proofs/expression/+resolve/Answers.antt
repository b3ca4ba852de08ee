-- Each form of an expression is numbered where the expressions inside it are.
use Rattle.std.proofs.Common.{arith}
use Rattle.tree_expressions.proofs.Numbered.{or_numbered, comparison_numbered, concatenation_numbered, list_concatenation_numbered, join_numbered, assert_numbered, conditional_numbered, call_numbered, list_numbered, format_numbered}
use Rattle.tree_expressions.proofs.NumberedRows.{row_numbered, interpolations_numbered}
use Rattle.tree_expressions.proofs.expression.+resolve.Goals as goal

pub Expression::resolve-returns-in-Or : goal.Expression::resolve-returns-in-Or
Expression::resolve-returns-in-Or g t c = rw c.in-Or.is (or_numbered _ c.in-Or.lhs c.in-Or.rhs _ _ c.resolve_inner-in-Or.ensures c.resolve_inner-in-Or-2.ensures)

pub Expression::resolve-returns-in-Comparison : goal.Expression::resolve-returns-in-Comparison
Expression::resolve-returns-in-Comparison g t c = rw c.in-Comparison.is (comparison_numbered _ c.in-Comparison.lhs c.in-Comparison.rhs _ _ c.in-Comparison.operator c.in-Comparison.token c.resolve_inner-in-Comparison.ensures c.resolve_inner-in-Comparison-2.ensures)

pub Expression::resolve-returns-in-Concatenation : goal.Expression::resolve-returns-in-Concatenation
Expression::resolve-returns-in-Concatenation g t c = rw c.in-Concatenation.is (concatenation_numbered _ c.in-Concatenation.lhs c.in-Concatenation.rhs _ _ c.in-Concatenation.operator c.resolve_inner-in-Concatenation.ensures c.resolve_inner-in-Concatenation-2.ensures)

pub Expression::resolve-returns-in-ListConcatenation : goal.Expression::resolve-returns-in-ListConcatenation
Expression::resolve-returns-in-ListConcatenation g t c = rw c.in-ListConcatenation.is (list_concatenation_numbered _ c.in-ListConcatenation.lhs c.in-ListConcatenation.rhs _ _ c.in-ListConcatenation.operator c.resolve_inner-in-ListConcatenation.ensures c.resolve_inner-in-ListConcatenation-2.ensures)

pub Expression::resolve-returns-in-Call : goal.Expression::resolve-returns-in-Call
Expression::resolve-returns-in-Call g t c = rw c.in-Call.is (call_numbered _ c.in-Call.name c.in-Call.arguments _ c.resolve_row-arguments.ensures)

pub Expression::resolve-returns-in-List : goal.Expression::resolve-returns-in-List
Expression::resolve-returns-in-List g t c = rw c.in-List.is (list_numbered _ c.in-List.elements _ c.in-List.token c.resolve_row-elements.ensures)

pub Expression::resolve-returns-in-FormatString : goal.Expression::resolve-returns-in-FormatString
Expression::resolve-returns-in-FormatString g t c = rw c.in-FormatString.is (format_numbered _ c.in-FormatString.start c.in-FormatString.expressions _ c.resolve_interpolations-expressions.ensures)

pub Expression::resolve_variables-resolve-requires : goal.Expression::resolve_variables-resolve-requires
Expression::resolve_variables-resolve-requires g t c κs within = (rw c.replace-taken.ensures.value (omega arith), within)

pub numbering::resolve_interpolations-returns : goal.numbering::resolve_interpolations-returns
numbering::resolve_interpolations-returns g t c = interpolations_numbered _ c.args.interpolations.items c.loop-index.interpolations.items c.loop-index.invariant.same (λ k d lt. c.loop-index.invariant.each k d (omega arith))

pub numbering::resolve_row-returns : goal.numbering::resolve_row-returns
numbering::resolve_row-returns g t c = row_numbered _ c.args.expressions.items c.loop-index.expressions.items c.loop-index.invariant.same (λ k d lt. c.loop-index.invariant.each k d (omega arith))

pub Expression::resolve-returns-in-Join : goal.Expression::resolve-returns-in-Join
Expression::resolve-returns-in-Join g t c = rw c.in-Join.is (join_numbered _ c.in-Join.lhs _ c.in-Join.rhs _ c.in-Join.operator c.resolve_if_there-lhs.ensures c.resolve_inner-in-Join.ensures)

pub Expression::resolve-returns-in-Assert : goal.Expression::resolve-returns-in-Assert
Expression::resolve-returns-in-Assert g t c = rw c.in-Assert.is (assert_numbered _ c.in-Assert.condition _ c.in-Assert.message _ c.in-Assert.name c.resolve_if_there-message.ensures c.resolve_inner-in-Assert.ensures)

pub Expression::resolve-returns-in-Conditional : goal.Expression::resolve-returns-in-Conditional
Expression::resolve-returns-in-Conditional g t c = rw c.in-Conditional.is
    (conditional_numbered _ c.in-Conditional.condition c.in-Conditional.then _ _ c.in-Conditional.otherwise _ c.resolve_if_there-otherwise.ensures c.resolve_inner-in-Conditional.ensures c.resolve_inner-in-Conditional-2.ensures)
