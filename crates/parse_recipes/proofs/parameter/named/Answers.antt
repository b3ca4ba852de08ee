-- A binding has a number where its name was taken.
use Rattle.std.proofs.Common.{refl, arith}
use Rattle.just_text.specs.Tokens.{word_of}
use Rattle.just_text.specs.declared.token_kind.TokenKind.TheVariants.{Identifier}
use Rattle.parse_expressions.specs.Reading.{ahead}
use Rattle.parse_expressions.proofs.Shorter.{expect_shorter}
use Rattle.parse_recipes.proofs.Frugal.{bindings_first, unused}
use Rattle.parse_recipes.proofs.parameter.named.Goals as goal

pub returns-in_err-name-clause-frugal : goal.returns-in_err-name-clause-frugal
returns-in_err-name-clause-frugal g c = unused (ahead c.args.cursor.now) c.args.numerator.now c.args.numerator.now refl

pub returns-in_err-number-clause-frugal : goal.returns-in_err-number-clause-frugal
returns-in_err-number-clause-frugal g c = unused (ahead c.args.cursor.now) c.args.numerator.now c.next_binding.new.numerator c.in_err-number.ensures.err.2

pub returns-in_err-default-clause-frugal : goal.returns-in_err-default-clause-frugal
returns-in_err-default-clause-frugal g c =
    let new = c.next_binding.new.numerator in
    let less = expect_shorter word_of Identifier (ahead c.args.cursor.now) (c.in_ok-name.name, ahead c.expect.new.self) c.in_ok-name.ensures in
    bindings_first (ahead c.args.cursor.now) (ahead c.expect.new.self) c.args.numerator.now new new 1 c.in_ok-number.ensures.ok.1 (omega (arith, less)) (unused (ahead c.expect.new.self) new new refl)

pub returns-clause-frugal : goal.returns-clause-frugal
returns-clause-frugal g c =
    let new = c.next_binding.new.numerator in
    let less = expect_shorter word_of Identifier (ahead c.args.cursor.now) (c.in_ok-name.name, ahead c.expect.new.self) c.in_ok-name.ensures in
    bindings_first (ahead c.args.cursor.now) (ahead c.expect.new.self) c.args.numerator.now new new 1 c.in_ok-number.ensures.ok.1 (omega (arith, less)) (unused (ahead c.expect.new.self) new new refl)
