-- A recipe has a number where its name was taken.
use Rattle.std.proofs.Common.{refl, arith}
use Rattle.just_text.specs.Tokens.{word_of}
use Rattle.just_text.specs.declared.token_kind.TokenKind.TheVariants.{At, Identifier}
use Rattle.parse_expressions.specs.Reading.{ahead}
use Rattle.parse_expressions.proofs.Shorter.{expect_shorter}
use Rattle.parse_recipes.proofs.Frugal.{mark_taken, recipe_first, unused}
use Rattle.parse_recipes.proofs.recipe.recipe.Goals as goal

pub returns-in_err-name-clause-frugal : goal.returns-in_err-name-clause-frugal
returns-in_err-name-clause-frugal g c = unused (ahead c.args.cursor.now) c.args.numerator.now c.args.numerator.now refl

pub returns-in_err-number-clause-frugal : goal.returns-in_err-number-clause-frugal
returns-in_err-number-clause-frugal g c = unused (ahead c.args.cursor.now) c.args.numerator.now c.next_recipe.new.numerator c.in_err-number.ensures.err.2

pub returns-in_err-header-clause-frugal : goal.returns-in_err-header-clause-frugal
returns-in_err-header-clause-frugal g c =
    let mark = mark_taken At (ahead c.args.cursor.now) (c.marked-quiet.result, ahead c.marked-quiet.new.cursor) c.marked-quiet.ensures in
    let less = expect_shorter word_of Identifier (ahead c.marked-quiet.new.cursor) (c.in_ok-name.name, ahead c.expect.new.self) c.in_ok-name.ensures in
    recipe_first (ahead c.args.cursor.now) (ahead c.expect.new.self) c.args.numerator.now c.next_recipe.new.numerator c.header.new.numerator c.in_ok-number.ensures.ok.1 (omega (arith, mark, less)) c.in_err-header.ensures.frugal

pub returns-in_err-body-clause-frugal : goal.returns-in_err-body-clause-frugal
returns-in_err-body-clause-frugal g c =
    let mark = mark_taken At (ahead c.args.cursor.now) (c.marked-quiet.result, ahead c.marked-quiet.new.cursor) c.marked-quiet.ensures in
    let less = expect_shorter word_of Identifier (ahead c.marked-quiet.new.cursor) (c.in_ok-name.name, ahead c.expect.new.self) c.in_ok-name.ensures in
    recipe_first (ahead c.args.cursor.now) (ahead c.expect.new.self) c.args.numerator.now c.next_recipe.new.numerator c.header.new.numerator c.in_ok-number.ensures.ok.1 (omega (arith, mark, less)) c.in_ok-header.ensures.frugal

pub returns-clause-frugal : goal.returns-clause-frugal
returns-clause-frugal g c =
    let mark = mark_taken At (ahead c.args.cursor.now) (c.marked-quiet.result, ahead c.marked-quiet.new.cursor) c.marked-quiet.ensures in
    let less = expect_shorter word_of Identifier (ahead c.marked-quiet.new.cursor) (c.in_ok-name.name, ahead c.expect.new.self) c.in_ok-name.ensures in
    recipe_first (ahead c.args.cursor.now) (ahead c.expect.new.self) c.args.numerator.now c.next_recipe.new.numerator c.header.new.numerator c.in_ok-number.ensures.ok.1 (omega (arith, mark, less)) c.in_ok-header.ensures.frugal
