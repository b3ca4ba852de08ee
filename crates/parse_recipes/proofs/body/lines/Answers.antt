-- Each turn reads a line.
use Rattle.std.proofs.Common.{◌≡◌, ◌-◌, ◌++◌, ◌∷◌, [], suc, length, None, Ok, rules, arith}
use Rattle.std.proofs.lemmas.Result.{err_from_is_err_and}
use Rattle.just_text.specs.Tokens.{word_of}
use Rattle.just_text.specs.declared.token_kind.TokenKind.TheVariants.{Dedent}
use Rattle.tree_items.specs.Lines.{pieces_of}
use Rattle.parse_expressions.specs.Origins.{origin_of}
use Rattle.parse_expressions.specs.Reading.{ahead, accept, Fails}
use Rattle.parse_recipes.specs.Cooked.{IsLineCooked}
use Rattle.parse_recipes.specs.Reading.{line_at, lines_at}
use Rattle.parse_recipes.proofs.Shrinks.{line_shorter}
use Rattle.parse_recipes.proofs.Turns.{all_more, all_none, nothing_before, fails, goes_on, at_end}
use Rattle.parse_recipes.proofs.body.lines.Goals as goal
use Rattle.parse_expressions.proofs.Elements.{taken}

pub loop-alloc-init : goal.loop-alloc-init
unfolding lines_at
loop-alloc-init g c = let ts = ahead c.args.cursor.now in (suc (length ts), omega arith, nothing_before pieces_of c.new-lines.result.items _ (search rules), all_none (IsLineCooked (origin_of g.E.Expander.expansion c.args.context.now)) c.new-lines.result.items (search rules))

pub returns-in_err-line-clause-gives : goal.returns-in_err-line-clause-gives
returns-in_err-line-clause-gives g c =
    let l = c.loop-alloc in
    let x = g.E.Expander.expansion c.args.context.now.expander.now in
    let open_still : accept word_of Dedent (ahead l.cursor) ≡ None = grind arith in
    let same : ahead c.accept.new.self ≡ ahead l.cursor = grind arith in
    let failed : Fails c.in_err-line.field-0.0 (line_at word_of x (ahead l.cursor)) = rw same at c.in_err-line.ensures.gives in
    let p = err_from_is_err_and c.from_residual.result c.from_residual.ensures.1 in
    rw (p.1, p.2) (fails pieces_of (line_at word_of x) Dedent l.lines.items l.invariant.0 (ahead l.cursor) _ l.invariant.1 l.invariant.2 open_still c.in_err-line.field-0.0 failed)

pub loop-alloc-smaller : goal.loop-alloc-smaller
loop-alloc-smaller g c =
    let l = c.loop-alloc in
    let x = g.E.Expander.expansion c.args.context.now.expander.now in
    let same : ahead c.accept.new.self ≡ ahead l.cursor = grind arith in
    let read : line_at word_of x (ahead l.cursor) ≡ Ok (pieces_of c.in_ok-line.field-0, ahead c.line.new.cursor) = rw same at c.in_ok-line.ensures.gives in
    line_shorter word_of x (ahead l.cursor) (pieces_of c.in_ok-line.field-0, ahead c.line.new.cursor) read

pub loop-alloc-preserved : goal.loop-alloc-preserved
loop-alloc-preserved g c =
    let l = c.loop-alloc in
    let x = g.E.Expander.expansion c.args.context.now.expander.now in
    let open_still : accept word_of Dedent (ahead l.cursor) ≡ None = grind arith in
    let same : ahead c.accept.new.self ≡ ahead l.cursor = grind arith in
    let read : line_at word_of x (ahead l.cursor) ≡ Ok (pieces_of c.in_ok-line.field-0, ahead c.line.new.cursor) = rw same at c.in_ok-line.ensures.gives in
    let less = line_shorter word_of x (ahead l.cursor) (pieces_of c.in_ok-line.field-0, ahead c.line.new.cursor) read in
    let pushed : c.push_compact.new.list.items ≡ l.lines.items ++ c.in_ok-line.field-0 ∷ [] = search rules in
    (l.invariant.0 - 1, omega (arith, less, l.invariant.1), rw pushed (goes_on pieces_of (line_at word_of x) Dedent l.lines.items l.invariant.0 (ahead l.cursor) _ l.invariant.1 l.invariant.2 c.in_ok-line.field-0 (ahead c.line.new.cursor) open_still read), rw pushed (all_more (IsLineCooked (origin_of g.E.Expander.expansion c.args.context.now)) l.lines.items c.in_ok-line.field-0 l.invariant.3 c.in_ok-line.ensures.cooked))

pub returns-clause-gives : goal.returns-clause-gives
returns-clause-gives g c =
    let l = c.loop-alloc in
    let end = taken Dedent (ahead l.cursor) c.accept.result (ahead c.accept.new.self) c.accept.ensures.accepted (search rules) in
    at_end pieces_of (line_at word_of (g.E.Expander.expansion c.args.context.now.expander.now)) Dedent l.lines.items l.invariant.0 (ahead l.cursor) _ l.invariant.1 l.invariant.2 end.0 (ahead c.accept.new.self) end.1
