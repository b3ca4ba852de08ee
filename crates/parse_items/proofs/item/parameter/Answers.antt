-- A name that can't be remembered is not a new one.
use Rattle.std.proofs.Common.{refl, arith}
use Rattle.std.proofs.lemmas.Result.{err_from_is_err_and}
use Rattle.just_text.specs.Tokens.{word_of}
use Rattle.just_text.specs.declared.token_kind.TokenKind.TheVariants.{Identifier}
use Rattle.parse_expressions.specs.Reading.{ahead}
use Rattle.parse_expressions.proofs.Shorter.{expect_shorter}
use Rattle.parse_recipes.proofs.Frugal.{bindings_first, unused}
use Rattle.parse_items.proofs.Parameters.{not_new}
use Rattle.parse_items.proofs.item.parameter.Goals as goal

pub returns-in_err-remember-clause-gives : goal.returns-in_err-remember-clause-gives
returns-in_err-remember-clause-gives c = λ before has.
    let p = err_from_is_err_and c.from_residual-in_err-remember.result c.from_residual-in_err-remember.ensures.1 in
    rw (p.1, p.2) (not_new _ before _ c.in_ok-name.name.token _ c.in_ok-name.ensures c.in_err-remember.field-0.0 (c.in_err-remember.ensures.gives before has))

pub returns-in_err-name-clause-frugal : goal.returns-in_err-name-clause-frugal
returns-in_err-name-clause-frugal c = unused (ahead c.args.cursor.now) c.args.numerator.now c.args.numerator.now refl

pub returns-in_err-remember-clause-frugal : goal.returns-in_err-remember-clause-frugal
returns-in_err-remember-clause-frugal c = unused (ahead c.args.cursor.now) c.args.numerator.now c.args.numerator.now refl

pub returns-in_err-number-clause-frugal : goal.returns-in_err-number-clause-frugal
returns-in_err-number-clause-frugal c = unused (ahead c.args.cursor.now) c.args.numerator.now c.next_binding.new.numerator c.in_err-number.ensures.err.2

pub returns-clause-frugal : goal.returns-clause-frugal
returns-clause-frugal c =
    let new = c.next_binding.new.numerator in
    let less = expect_shorter word_of Identifier (ahead c.args.cursor.now) (c.in_ok-name.name.token, ahead c.name.new.cursor) c.in_ok-name.ensures in
    bindings_first (ahead c.args.cursor.now) (ahead c.name.new.cursor) c.args.numerator.now new new 1 c.in_ok-number.ensures.ok.1 (omega (arith, less)) (unused (ahead c.name.new.cursor) new new refl)
