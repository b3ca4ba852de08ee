-- The parameters of a function are numbered after its name and the parenthesis.
use Rattle.std.proofs.Common.{refl, arith}
use Rattle.just_text.specs.Tokens.{word_of}
use Rattle.just_text.specs.declared.token_kind.TokenKind.TheVariants.{Identifier, ParenL}
use Rattle.parse_expressions.specs.Reading.{ahead}
use Rattle.parse_expressions.proofs.Shorter.{expect_shorter}
use Rattle.parse_recipes.proofs.Frugal.{unused, with_more}
use Rattle.parse_items.proofs.item.function.Goals as goal

pub returns-in_err-name-clause-frugal : goal.returns-in_err-name-clause-frugal
returns-in_err-name-clause-frugal g c = unused (ahead c.args.cursor.now) c.args.numerator.now c.args.numerator.now refl

pub returns-in_err-expect-clause-frugal : goal.returns-in_err-expect-clause-frugal
returns-in_err-expect-clause-frugal g c = unused (ahead c.args.cursor.now) c.args.numerator.now c.args.numerator.now refl

pub returns-in_err-parameters-clause-frugal : goal.returns-in_err-parameters-clause-frugal
returns-in_err-parameters-clause-frugal g c =
    let name = expect_shorter word_of Identifier (ahead c.args.cursor.now) (c.in_ok-name.name.token, ahead c.name.new.cursor) c.in_ok-name.ensures in
    let less = expect_shorter word_of ParenL (ahead c.name.new.cursor) (c.in_ok-expect.field-0, ahead c.expect.new.self) c.in_ok-expect.ensures in
    with_more (ahead c.args.cursor.now) (ahead c.expect.new.self) c.args.numerator.now c.parameters.new.numerator (omega (arith, name, less)) c.in_err-parameters.ensures.frugal

pub returns-in_err-body-clause-frugal : goal.returns-in_err-body-clause-frugal
returns-in_err-body-clause-frugal g c =
    let name = expect_shorter word_of Identifier (ahead c.args.cursor.now) (c.in_ok-name.name.token, ahead c.name.new.cursor) c.in_ok-name.ensures in
    let less = expect_shorter word_of ParenL (ahead c.name.new.cursor) (c.in_ok-expect.field-0, ahead c.expect.new.self) c.in_ok-expect.ensures in
    with_more (ahead c.args.cursor.now) (ahead c.expect.new.self) c.args.numerator.now c.parameters.new.numerator (omega (arith, name, less)) c.in_ok-parameters.ensures.frugal

pub returns-clause-frugal : goal.returns-clause-frugal
returns-clause-frugal g c =
    let name = expect_shorter word_of Identifier (ahead c.args.cursor.now) (c.in_ok-name.name.token, ahead c.name.new.cursor) c.in_ok-name.ensures in
    let less = expect_shorter word_of ParenL (ahead c.name.new.cursor) (c.in_ok-expect.field-0, ahead c.expect.new.self) c.in_ok-expect.ensures in
    with_more (ahead c.args.cursor.now) (ahead c.expect.new.self) c.args.numerator.now c.parameters.new.numerator (omega (arith, name, less)) c.in_ok-parameters.ensures.frugal
