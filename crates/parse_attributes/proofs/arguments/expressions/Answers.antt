-- Each turn reads an expression.
use Rattle.std.proofs.Common.{◌≡◌, ◌-◌, Ok, refl, true, false, arith}
use Rattle.std.proofs.lemmas.Result.{err_from_is_err_and}
use Rattle.just_text.specs.Tokens.{word_of}
use Rattle.just_text.specs.declared.token_kind.TokenKind.TheVariants.{ParenR}
use Rattle.tree_expressions.specs.Shape.{shape_of}
use Rattle.parse_expressions.specs.Literals.{IsCooked}
use Rattle.parse_expressions.specs.Origins.{origin_of}
use Rattle.parse_expressions.specs.Reading.{ahead}
use Rattle.parse_attributes.specs.Reading.{whole_at}
use Rattle.parse_expressions.specs.Rows.{more_at}
use Rattle.parse_attributes.proofs.Fewer.{whole_shorter}
use Rattle.parse_expressions.proofs.Rows.{more_shorter}
use Rattle.parse_attributes.proofs.Follow.{at_end, goes_on, no_item, refused_so, untold}
use Rattle.parse_attributes.proofs.arguments.expressions.Goals as goal
use Rattle.parse_expressions.proofs.Elements.{one_more_cooked}

pub returns-in_err-is_more-clause-gives : goal.returns-in_err-is_more-clause-gives
returns-in_err-is_more-clause-gives g c =
    let l = c.loop-expressions in
    let i = l.invariant in
    let x = g.E.Expander.expansion c.args.context.now.expander.now in
    let p = err_from_is_err_and c.from_residual.result c.from_residual.ensures.1 in
    rw (p.1, p.2) (untold shape_of (whole_at word_of x) (more_at word_of ParenR) l.expressions.items i.turns (ahead l.cursor) _ i.fuel i.so_far c.in_err-is_more.field-0.0 c.in_err-is_more.ensures)

pub returns-in_err-push_read-clause-gives : goal.returns-in_err-push_read-clause-gives
returns-in_err-push_read-clause-gives g c =
    let l = c.loop-expressions in
    let i = l.invariant in
    let x = g.E.Expander.expansion c.args.context.now.expander.now in
    let comes : more_at word_of ParenR (ahead l.cursor) ≡ Ok (true, ahead c.is_more.new.cursor) = rw c.if-branch.true at c.in_ok-is_more.ensures in
    let p = err_from_is_err_and c.from_residual-in_err-push_read.result c.from_residual-in_err-push_read.ensures.1 in
    let e = c.in_err-push_read.field-0.0 in
    let fails = refused_so _ c.expression.result (whole_at word_of x (ahead c.is_more.new.cursor)) e c.expression.ensures.gives (c.in_err-push_read.ensures.refused e refl) in
    rw (p.1, p.2) (no_item shape_of (whole_at word_of x) (more_at word_of ParenR) l.expressions.items i.turns (ahead l.cursor) _ i.fuel i.so_far (ahead c.is_more.new.cursor) comes e fails)

pub loop-expressions-smaller : goal.loop-expressions-smaller
loop-expressions-smaller g c =
    let l = c.loop-expressions in
    let x = g.E.Expander.expansion c.args.context.now.expander.now in
    let comes : more_at word_of ParenR (ahead l.cursor) ≡ Ok (true, ahead c.is_more.new.cursor) = rw c.if-branch.true at c.in_ok-is_more.ensures in
    let s = c.in_ok-push_read.ensures.stored in
    let gives : whole_at word_of x (ahead c.is_more.new.cursor) ≡ Ok (shape_of s.0, ahead c.expression.new.self) = rw s.1 at c.expression.ensures.gives in
    let less = more_shorter word_of ParenR (ahead l.cursor) (true, ahead c.is_more.new.cursor) comes in
    let fewer = whole_shorter word_of x (ahead c.is_more.new.cursor) (shape_of s.0, ahead c.expression.new.self) gives in
    omega (arith, less, fewer)

pub loop-expressions-preserved : goal.loop-expressions-preserved
loop-expressions-preserved g c =
    let l = c.loop-expressions in
    let i = l.invariant in
    let x = g.E.Expander.expansion c.args.context.now.expander.now in
    let comes : more_at word_of ParenR (ahead l.cursor) ≡ Ok (true, ahead c.is_more.new.cursor) = rw c.if-branch.true at c.in_ok-is_more.ensures in
    let s = c.in_ok-push_read.ensures.stored in
    let gives : whole_at word_of x (ahead c.is_more.new.cursor) ≡ Ok (shape_of s.0, ahead c.expression.new.self) = rw s.1 at c.expression.ensures.gives in
    let less = more_shorter word_of ParenR (ahead l.cursor) (true, ahead c.is_more.new.cursor) comes in
    let fewer = whole_shorter word_of x (ahead c.is_more.new.cursor) (shape_of s.0, ahead c.expression.new.self) gives in
    let cooked : IsCooked (origin_of g.E.Expander.expansion c.args.context.now) s.0 = rw s.1 at c.expression.ensures.cooked in
    record {
      turns = i.turns - 1;
      fuel = omega (arith, less, fewer, i.fuel);
      so_far = rw s.2 (goes_on shape_of (whole_at word_of x) (more_at word_of ParenR) l.expressions.items i.turns (ahead l.cursor) _ i.fuel i.so_far (ahead c.is_more.new.cursor) comes s.0 (ahead c.expression.new.self) gives);
      cooked = rw s.2 (one_more_cooked (origin_of g.E.Expander.expansion c.args.context.now) l.expressions.items s.0 i.cooked cooked);
    }

pub returns-clause-gives : goal.returns-clause-gives
returns-clause-gives g c =
    let l = c.loop-expressions in
    let i = l.invariant in
    let x = g.E.Expander.expansion c.args.context.now.expander.now in
    let ends : more_at word_of ParenR (ahead l.cursor) ≡ Ok (false, ahead c.is_more.new.cursor) = rw c.if-branch.false at c.in_ok-is_more.ensures in
    at_end shape_of (whole_at word_of x) (more_at word_of ParenR) l.expressions.items i.turns (ahead l.cursor) _ i.fuel i.so_far (ahead c.is_more.new.cursor) ends
