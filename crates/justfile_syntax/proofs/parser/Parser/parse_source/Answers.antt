-- The lexer's answer and the parser's are the text's.
use Rattle.std.proofs.Common.{refl, arith}
use Rattle.std.proofs.lemmas.Result.{err_from_is_err_and}
use Rattle.just_lexer.specs.Lexes.{pieces}
use Rattle.parse_expressions.specs.Reading.{shown}
use Rattle.parse_recipes.specs.Numbering.{AreUsed}
use Rattle.parse_recipes.proofs.Frugal.{unused, with_more}
use Rattle.justfile_syntax.proofs.Frugal.{as_few, as_many}
use Rattle.justfile_syntax.proofs.Said.{only_said, refused_said, said, stands_read}
use Rattle.justfile_syntax.proofs.parser.Parser.parse_source.Goals as goal

pub returns-clause-found : goal.returns-clause-found
returns-clause-found g c =
    said (g.E.Expander.expansion c.args.expander.now) c.args.version.now (AreUsed c.parse_in.new.numerator) c.args.src.now c.in_ok-tokens.tokens.items c.as_slice.result.now c.as_slice.ensures.value c.in_ok-tokens.ensures.found c.parse_in.result c.parse_in.ensures.found

pub returns-clause-only : goal.returns-clause-only
returns-clause-only g c =
    only_said (g.E.Expander.expansion c.args.expander.now) c.args.version.now (AreUsed c.parse_in.new.numerator) c.args.src.now c.in_ok-tokens.tokens.items c.as_slice.result.now c.as_slice.ensures.value c.in_ok-tokens.ensures.found c.parse_in.result
    c.in_ok-tokens.ensures.only c.parse_in.ensures.only

pub returns-clause-refused : goal.returns-clause-refused
returns-clause-refused g c =
    refused_said (g.E.Expander.expansion c.args.expander.now) c.args.version.now (AreUsed c.parse_in.new.numerator) c.args.src.now c.in_ok-tokens.tokens.items c.as_slice.result.now c.as_slice.ensures.value c.in_ok-tokens.ensures.found c.parse_in.result
    c.parse_in.ensures.fault c.parse_in.ensures.reason

pub returns-clause-place : goal.returns-clause-place
returns-clause-place g c =
    stands_read (g.E.Expander.expansion c.args.expander.now) c.args.version.now (AreUsed c.parse_in.new.numerator) c.args.src.now c.in_ok-tokens.tokens.items c.as_slice.result.now c.as_slice.ensures.value c.in_ok-tokens.ensures.found c.args.path.now
    c.in_ok-tokens.ensures.borrowed c.parse_in.result c.parse_in.ensures.reason

pub returns-in_err-tokens-clause-frugal : goal.returns-in_err-tokens-clause-frugal
returns-in_err-tokens-clause-frugal g c = λ tokens lexed. unused (shown tokens) c.args.numerator.now c.args.numerator.now refl

pub returns-in_err-tokens-clause-used : goal.returns-in_err-tokens-clause-used
returns-in_err-tokens-clause-used g c = λ tokens lexed.
    let p = err_from_is_err_and c.from_residual.result c.from_residual.ensures.1 in
    rw (p.1, p.2, c.in_err-tokens.ensures.only (pieces tokens) lexed) tt

pub returns-clause-frugal : goal.returns-clause-frugal
returns-clause-frugal g c = λ tokens lexed.
    let many = as_many c.in_ok-tokens.tokens.items c.as_slice.result.now tokens c.as_slice.ensures.value (c.in_ok-tokens.ensures.only (pieces tokens) lexed) in
    with_more (shown tokens) (shown c.as_slice.result.now) c.args.numerator.now c.parse_in.new.numerator (omega (arith, many)) c.parse_in.ensures.frugal

pub returns-clause-used : goal.returns-clause-used
returns-clause-used g c = λ tokens lexed.
    let many = as_many c.in_ok-tokens.tokens.items c.as_slice.result.now tokens c.as_slice.ensures.value (c.in_ok-tokens.ensures.only (pieces tokens) lexed) in
    as_few c.as_slice.result.now tokens c.args.numerator.now c.parse_in.result many c.parse_in.ensures.used
