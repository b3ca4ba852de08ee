-- Each turn reads a name after `::`.
use Rattle.std.proofs.Common.{◌≡◌, ◌-◌, ◌++◌, ◌∷◌, [], length, None, rules, arith}
use Rattle.std.proofs.lemmas.Result.{err_from_is_err_and}
use Rattle.just_text.specs.Tokens.{word_of}
use Rattle.just_text.specs.declared.token_kind.TokenKind.TheVariants.{ColonColon, Identifier}
use Rattle.parse_expressions.specs.Reading.{ahead, accept}
use Rattle.parse_expressions.proofs.Shorter.{accept_shorter, expect_shorter}
use Rattle.parse_recipes.proofs.Paths.{no_first, first_name, one_more, no_name, at_end}
use Rattle.parse_recipes.proofs.path.namepath.Goals as goal
use Rattle.parse_expressions.proofs.Elements.{taken}

pub returns-in_err-first : goal.returns-in_err-first
returns-in_err-first c =
    let p = err_from_is_err_and c.from_residual.result c.from_residual.ensures.1 in
    rw (p.1, p.2) (no_first (ahead c.args.cursor.now) c.in_err-first.field-0.0 c.in_err-first.ensures)

pub loop-cursor-init : goal.loop-cursor-init
loop-cursor-init c =
    let ts = ahead c.args.cursor.now in
    let rest = ahead c.expect.new.self in
    let less = expect_shorter word_of Identifier ts (c.in_ok-first.first, rest) c.in_ok-first.ensures in
    (length ts, less, rw c.in_ok-path.ensures (first_name (length ts) ts c.in_ok-first.first rest c.from_token.result c.from_token.ensures c.in_ok-first.ensures))

pub returns-in_err-name : goal.returns-in_err-name
returns-in_err-name c =
    let l = c.loop-cursor in
    let colons = taken ColonColon (ahead l.cursor) c.accept.result (ahead c.accept.new.self) c.accept.ensures.accepted (search rules) in
    let p = err_from_is_err_and c.from_residual-in_err-name.result c.from_residual-in_err-name.ensures.1 in
    rw (p.1, p.2) (no_name l.path l.invariant.0 (ahead l.cursor) (ahead c.args.cursor.now) l.invariant.1 l.invariant.2 colons.0 (ahead c.accept.new.self) colons.1 c.in_err-name.field-0.0 c.in_err-name.ensures)

pub loop-cursor-smaller : goal.loop-cursor-smaller
loop-cursor-smaller c =
    let l = c.loop-cursor in
    let colons = taken ColonColon (ahead l.cursor) c.accept.result (ahead c.accept.new.self) c.accept.ensures.accepted (search rules) in
    let i = accept_shorter word_of ColonColon (ahead l.cursor) (colons.0, ahead c.accept.new.self) colons.1 in
    let j = expect_shorter word_of Identifier (ahead c.accept.new.self) (c.in_ok-name.name, ahead c.expect-in-loop-cursor.new.self) c.in_ok-name.ensures in
    omega (arith, i, j)

pub loop-cursor-preserved : goal.loop-cursor-preserved
loop-cursor-preserved c =
    let l = c.loop-cursor in
    let colons = taken ColonColon (ahead l.cursor) c.accept.result (ahead c.accept.new.self) c.accept.ensures.accepted (search rules) in
    let i = accept_shorter word_of ColonColon (ahead l.cursor) (colons.0, ahead c.accept.new.self) colons.1 in
    let j = expect_shorter word_of Identifier (ahead c.accept.new.self) (c.in_ok-name.name, ahead c.expect-in-loop-cursor.new.self) c.in_ok-name.ensures in
    let pushed : c.push.new.self ≡ l.path ++ c.from_token-in-loop-cursor.result ∷ [] = search rules in (
      l.invariant.0 - 1,
      omega (arith, i, j, l.invariant.1),
      rw pushed (one_more l.path l.invariant.0 (ahead l.cursor) _ l.invariant.1 l.invariant.2 colons.0 (ahead c.accept.new.self) colons.1 c.in_ok-name.name (ahead c.expect-in-loop-cursor.new.self) c.from_token-in-loop-cursor.result c.from_token-in-loop-cursor.ensures c.in_ok-name.ensures),
    )

pub returns : goal.returns
returns c =
    let l = c.loop-cursor in
    let none : accept word_of ColonColon (ahead l.cursor) ≡ None = grind arith in
    let same : ahead c.accept.new.self ≡ ahead l.cursor = grind arith in
    rw same (at_end l.path l.invariant.0 (ahead l.cursor) (ahead c.args.cursor.now) l.invariant.2 none)
