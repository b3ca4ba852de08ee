-- An assignment has a number where its name was taken.
use Rattle.std.proofs.Common.{suc, false, length, refl, arith}
use Rattle.just_text.specs.Tokens.{word_of}
use Rattle.just_text.specs.declared.token_kind.TokenKind.TheVariants.{Identifier}
use Rattle.parse_expressions.specs.Reading.{ahead}
use Rattle.parse_expressions.proofs.Shorter.{expect_shorter}
use Rattle.parse_recipes.proofs.Frugal.{bindings_first, unused}
use Rattle.parse_items.proofs.Frugal.{words_taken}
use Rattle.parse_items.proofs.item.assignment.Goals as goal

pub returns-in_err-words-clause-frugal : goal.returns-in_err-words-clause-frugal
returns-in_err-words-clause-frugal g c = unused (ahead c.args.cursor.now) c.args.numerator.now c.args.numerator.now refl

pub returns-in_err-name-clause-frugal : goal.returns-in_err-name-clause-frugal
returns-in_err-name-clause-frugal g c = unused (ahead c.args.cursor.now) c.args.numerator.now c.args.numerator.now refl

pub returns-in_err-number-clause-frugal : goal.returns-in_err-number-clause-frugal
returns-in_err-number-clause-frugal g c = unused (ahead c.args.cursor.now) c.args.numerator.now c.next_binding.new.numerator c.in_err-number.ensures.err.2

pub returns-in_err-value-clause-frugal : goal.returns-in_err-value-clause-frugal
returns-in_err-value-clause-frugal g c =
    let new = c.next_binding.new.numerator in
    let ts = ahead c.args.cursor.now in
    let words = words_taken false false (suc (length ts)) ts ((c.in_ok-words.words.export, c.in_ok-words.words.eager), ahead c.words.new.cursor) c.in_ok-words.ensures in
    let less = expect_shorter word_of Identifier (ahead c.words.new.cursor) (c.in_ok-name.name.token, ahead c.name.new.cursor) c.in_ok-name.ensures in
    bindings_first ts (ahead c.name.new.cursor) c.args.numerator.now new new 1 c.in_ok-number.ensures.ok.1 (omega (arith, words, less)) (unused (ahead c.name.new.cursor) new new refl)

pub returns-clause-frugal : goal.returns-clause-frugal
returns-clause-frugal g c =
    let new = c.next_binding.new.numerator in
    let ts = ahead c.args.cursor.now in
    let words = words_taken false false (suc (length ts)) ts ((c.in_ok-words.words.export, c.in_ok-words.words.eager), ahead c.words.new.cursor) c.in_ok-words.ensures in
    let less = expect_shorter word_of Identifier (ahead c.words.new.cursor) (c.in_ok-name.name.token, ahead c.name.new.cursor) c.in_ok-name.ensures in
    bindings_first ts (ahead c.name.new.cursor) c.args.numerator.now new new 1 c.in_ok-number.ensures.ok.1 (omega (arith, words, less)) (unused (ahead c.name.new.cursor) new new refl)
