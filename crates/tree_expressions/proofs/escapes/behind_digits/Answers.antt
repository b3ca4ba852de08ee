-- Six digits fit.
use Rattle.std.proofs.Common.{arith}
use Rattle.tree_expressions.proofs.Turns.{digits_small, digits_more}
use Rattle.tree_expressions.proofs.escapes.behind_digits.Goals as goal

pub overflow_mul-result : goal.overflow_mul-result
overflow_mul-result c = omega (arith, digits_small c.args.count c.args.value c.requires c.if-count-lt-MAX_DIGITS.true)

pub overflow_add-result-in-Some-to_digit : goal.overflow_add-result-in-Some-to_digit
overflow_add-result-in-Some-to_digit c = omega (arith, digits_small c.args.count c.args.value c.requires c.if-count-lt-MAX_DIGITS.true, c.in-Some-to_digit.ensures)

pub returns-in-Some-to_digit-clause-place : goal.returns-in-Some-to_digit-clause-place
returns-in-Some-to_digit-clause-place c = digits_more c.args.count c.args.value c.in-Some-to_digit.digit c.requires c.if-count-lt-MAX_DIGITS.true (omega (arith, c.in-Some-to_digit.ensures.value.0, c.in-Some-to_digit.ensures.value.1))
