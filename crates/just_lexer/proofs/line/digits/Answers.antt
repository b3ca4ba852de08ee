-- A number of two digits or more has one digit more than its tenth.
use Rattle.std.proofs.Common.{◌+◌, ◌/◌, ◌%◌, [], ◌∷◌, length, length-append, ap, ◌∙◌, arith}
use Rattle.std.specs.Fmt.{decimal}
use Rattle.std.proofs.lemmas.Fmt.{decimal_digit, decimal_step_wide, length-decimal-le_wide}
use Rattle.just_lexer.proofs.line.digits.Goals as goal

pub overflow_add-count : goal.overflow_add-count
overflow_add-count c = omega (arith, length-decimal-le_wide 64 c.args.number (omega arith) (omega arith) (omega arith))

pub loop-rest-preserved : goal.loop-rest-preserved
loop-rest-preserved c =
    let tenth = c.loop-rest.rest / 10 in
    let digit = 48 + c.loop-rest.rest % 10 in
    let longer = ap length (decimal_step_wide c.loop-rest.rest (omega arith) (omega arith)) ∙ length-append (decimal tenth) (digit ∷ []) in
    (omega (arith, longer), omega arith, omega arith)

pub returns : goal.returns
returns c = omega (arith, ap length (decimal_digit c.loop-rest.rest (omega arith)))
