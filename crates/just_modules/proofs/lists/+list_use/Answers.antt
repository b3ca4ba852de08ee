-- Forms with parts, and rows of them.
use Rattle.std.proofs.Common.{arith, rules}
use Rattle.just_modules.specs.Lists.{in_expression, in_interpolation}
use Rattle.just_modules.proofs.Features.{row_found, row_goes_on, call_has, format_has, assertion_has, join_has, first_both}
use Rattle.just_modules.proofs.lists.+list_use.Goals as goal

pub in_expression-returns-in-Call : goal.in_expression-returns-in-Call
in_expression-returns-in-Call t c = rw (c.in-Call.is, call_has) (search rules)

pub in_expression-returns-in-FormatString : goal.in_expression-returns-in-FormatString
in_expression-returns-in-FormatString t c = rw (c.in-FormatString.is, format_has) (search rules)

pub in_expression-returns-in-Assert : goal.in_expression-returns-in-Assert
in_expression-returns-in-Assert t c = rw (c.in-Assert.is, assertion_has) (grind (arith, first_both))

pub in_expression-returns-in-Join : goal.in_expression-returns-in-Join
in_expression-returns-in-Join t c = rw (c.in-Join.is, join_has) (grind (arith, first_both))

pub in_interpolations-returns-then-is_some : goal.in_interpolations-returns-then-is_some
in_interpolations-returns-then-is_some t c = row_found in_interpolation _ c.loop-expression.expression-index c.loop-expression-item.result _ c.loop-expression.invariant (omega arith) c.loop-expression-item.is c.in_expression-found.ensures (search rules)

pub in_interpolations-loop-expression-preserved : goal.in_interpolations-loop-expression-preserved
in_interpolations-loop-expression-preserved t c = row_goes_on in_interpolation _ c.loop-expression.expression-index c.loop-expression-item.result _ c.loop-expression.invariant (omega arith) c.loop-expression-item.is c.in_expression-found.ensures (search rules)

pub in_row-returns-then-is_some : goal.in_row-returns-then-is_some
in_row-returns-then-is_some t c = row_found in_expression _ c.loop-expression.expression-index c.expression-item.result _ c.loop-expression.invariant (omega arith) c.expression-item.is c.in_expression-found.ensures (search rules)

pub in_row-loop-expression-preserved : goal.in_row-loop-expression-preserved
in_row-loop-expression-preserved t c = row_goes_on in_expression _ c.loop-expression.expression-index c.expression-item.result _ c.loop-expression.invariant (omega arith) c.expression-item.is c.in_expression-found.ensures (search rules)
