-- Each word leaves fewer tokens, and what is read after it is what is read in all.
use Rattle.std.proofs.Common.{◌≡◌, ◌-◌, false, true, Ok, rules, arith}
use Rattle.std.proofs.lemmas.Result.{err_from_is_err_and}
use Rattle.just_text.specs.Tokens.{word_of}
use Rattle.just_text.specs.declared.token_kind.TokenKind.TheVariants.{Identifier}
use Rattle.parse_expressions.specs.Reading.{ahead, expect}
use Rattle.parse_expressions.proofs.Shorter.{expect_shorter}
use Rattle.parse_items.specs.Reading.{is_named_value}
use Rattle.parse_items.proofs.Words.{at_name, no_word, goes_on}
use Rattle.parse_items.proofs.item.words.Goals as goal

pub returns-in_err-token : goal.returns-in_err-token
returns-in_err-token c =
    let l = c.loop-cursor in
    let unnamed : is_named_value word_of (ahead l.cursor) ≡ false = search rules in
    let p = err_from_is_err_and c.from_residual.result c.from_residual.ensures.1 in
    rw (p.1, p.2) (no_word l.words.export l.words.eager l.invariant.0 (ahead l.cursor) _ l.invariant.1 l.invariant.2 unnamed c.in_err-token.field-0.0 c.in_err-token.ensures)

pub loop-cursor-smaller : goal.loop-cursor-smaller
loop-cursor-smaller c = expect_shorter word_of Identifier (ahead c.loop-cursor.cursor) (c.in_ok-token.token, ahead c.expect.new.self) c.in_ok-token.ensures

pub loop-cursor-preserved : goal.loop-cursor-preserved
loop-cursor-preserved c =
    let l = c.loop-cursor in
    let unnamed : is_named_value word_of (ahead l.cursor) ≡ false = search rules in
    let found : expect word_of Identifier (ahead l.cursor) ≡ Ok (c.in_ok-token.token, ahead c.expect.new.self) = c.in_ok-token.ensures in
    let less = expect_shorter word_of Identifier (ahead l.cursor) (c.in_ok-token.token, ahead c.expect.new.self) found in
    (l.invariant.0 - 1, omega (arith, less, l.invariant.1), rw (c.with_word-words.ensures.export, c.with_word-words.ensures.eager, c.lexeme.ensures) (goes_on l.words.export l.words.eager l.invariant.0 (ahead l.cursor) _ l.invariant.1 l.invariant.2 unnamed c.in_ok-token.token (ahead c.expect.new.self) found))

pub returns : goal.returns
returns c =
    let l = c.loop-cursor in
    let named : is_named_value word_of (ahead l.cursor) ≡ true = search rules in
    at_name l.words.export l.words.eager l.invariant.0 (ahead l.cursor) _ l.invariant.1 l.invariant.2 named
