-- What is left of a row has the same features as all of it, and what falls from call to call.
use Rattle.std.proofs.Common.{◌≡◌, ◌+◌, ◌*◌, max, drop}
use Rattle.std.specs.List.{flat_map}
use Rattle.just_modules.specs.Lists.{in_expression, in_interpolation}
use Rattle.tree_expressions.specs.declared.expression.Expression.{size-Expression}
use Rattle.just_modules.proofs.lists.+list_use.Given as goal

abbrev pub decreases-in_expression : goal.decreases-in_expression
decreases-in_expression l = 4 * goal.size-in_expression l

abbrev pub decreases-in_both : goal.decreases-in_both
decreases-in_both l = 4 * max (size-Expression l.lhs.now) (size-Expression l.rhs.now) + 1

abbrev pub decreases-in_choice : goal.decreases-in_choice
decreases-in_choice l = 4 * max (size-Expression l.condition.now) (max (size-Expression l.then.now) (size-Expression l.otherwise.now)) + 3

abbrev pub decreases-in_condition : goal.decreases-in_condition
decreases-in_condition l = 4 * goal.size-in_condition l + 2

abbrev pub decreases-in_optional : goal.decreases-in_optional
decreases-in_optional l = 4 * goal.size-in_optional l + 1

abbrev pub decreases-in_row : goal.decreases-in_row
decreases-in_row l = 4 * goal.size-in_row l + 1

abbrev pub decreases-in_interpolations : goal.decreases-in_interpolations
decreases-in_interpolations l = 4 * goal.size-in_interpolations l + 1

abbrev pub invariant-in_row-loop-expression : goal.invariant-in_row-loop-expression
invariant-in_row-loop-expression l = flat_map in_expression l.expressions ≡ flat_map in_expression (drop l.expression-index l.expressions)

abbrev pub invariant-in_interpolations-loop-expression : goal.invariant-in_interpolations-loop-expression
invariant-in_interpolations-loop-expression l = flat_map in_interpolation l.expressions ≡ flat_map in_interpolation (drop l.expression-index l.expressions)
