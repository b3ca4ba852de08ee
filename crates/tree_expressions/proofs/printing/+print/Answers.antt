-- The elements of a row, and interpolations, are written whole.
use Rattle.std.proofs.Common.{◌≡◌, ◌<◌, ◌≤◌, [], ◌∷◌, ◌++◌, length, rules, arith, codes}
use Rattle.std.proofs.Output.{has_written_append, has_written_of_eq}
use Rattle.tree_expressions.specs.Shape.{shape_of}
use Rattle.tree_expressions.specs.Printing.{text_of}
use Rattle.tree_expressions.proofs.Printed.{others_next, row_end, interpolations_next, interpolations_end}
use Rattle.tree_expressions.proofs.printing.+print.Goals as goal

pub print_all-loop-other-preserved : goal.print_all-loop-other-preserved
print_all-loop-other-preserved g t c plain =
    let (done, wrote, more) = c.loop-other.invariant plain in
    let next = c.print_between.ensures wrote.plain (search rules) in
    let x = c.other-item.result in
    let lt : c.loop-other.other-index < length c.in-Some.others.now = omega arith in
    (done ++ (codes ", " ++ (text_of (shape_of x) ++ [])), has_written_append _ _ _ _ _ _ wrote next, others_next c.in-Some.others.now c.loop-other.other-index x done _ lt c.other-item.is more)

pub print_all-returns : goal.print_all-returns
print_all-returns g t c plain ok =
    let one = c.print.ensures plain (search rules) in
    let (done, wrote, more) = c.loop-other.invariant one.plain in
    let le : length c.in-Some.others.now ≤ c.loop-other.other-index = omega arith in
    let whole : c.args.expressions.now ≡ c.in-Some.first.now ∷ c.in-Some.others.now = first_of (search rules, cc, assumption (c.in-Some.ensures.cases)) in
    has_written_of_eq _ _ _ _ _ (row_end c.args.expressions.now c.in-Some.first.now c.in-Some.others.now c.loop-other.other-index done whole le more) (has_written_append _ _ _ _ _ _ one wrote)

pub print_interpolations-loop-expression-preserved : goal.print_interpolations-loop-expression-preserved
print_interpolations-loop-expression-preserved g t c plain =
    let (done, wrote, more) = c.loop-expression.invariant plain in
    let next = c.print_between.ensures wrote.plain (search rules) in
    let x = c.loop-expression-item.result in
    let lt : c.loop-expression.expression-index < length c.args.interpolations.now = omega arith in
    (done ++ ([] ++ (text_of (shape_of x.0) ++ c.lexeme.result.now)), has_written_append _ _ _ _ _ _ wrote next, interpolations_next c.args.interpolations.now c.loop-expression.expression-index x c.lexeme.result.now done _ lt c.loop-expression-item.is c.lexeme.ensures more)

pub print_interpolations-returns : goal.print_interpolations-returns
print_interpolations-returns g t c plain ok =
    let one = c.write_str.ensures.writes plain (search rules) in
    let (done, wrote, more) = c.loop-expression.invariant one.plain in
    let le : length c.args.interpolations.now ≤ c.loop-expression.expression-index = omega arith in
    has_written_of_eq _ _ _ _ _ (interpolations_end c.args.interpolations.now c.loop-expression.expression-index c.args.start.now done _ le more) (has_written_append _ _ _ _ _ _ one wrote)
