-- Each turn reads a text or an interpolation.
use Rattle.std.proofs.Common.{◌≡◌, ◌-◌, ◌++◌, ◌∷◌, [], suc, length, Ok, Some, None, rules, arith}
use Rattle.std.proofs.lemmas.Result.{err_from_is_err_and}
use Rattle.just_text.specs.Tokens.{word_of}
use Rattle.tree_items.specs.Lines.{piece_of}
use Rattle.parse_expressions.specs.Origins.{origin_of}
use Rattle.parse_expressions.specs.Reading.{ahead}
use Rattle.parse_recipes.specs.Cooked.{IsFragmentCooked}
use Rattle.parse_recipes.specs.Reading.{piece_at, pieces_at}
use Rattle.parse_recipes.proofs.Shrinks.{piece_shrinks}
use Rattle.parse_recipes.proofs.Turns.{all_more, all_none, nothing_before, item_fails, one_more, none_left}
use Rattle.parse_recipes.proofs.body.fragments.Goals as goal

pub loop-fragments-init : goal.loop-fragments-init
unfolding pieces_at
loop-fragments-init g c = let ts = ahead c.args.cursor.now in (suc (length ts), omega arith, nothing_before piece_of c.new-fragments.result.items _ (search rules), all_none (IsFragmentCooked (origin_of g.E.Expander.expansion c.args.context.now)) c.new-fragments.result.items (search rules))

pub returns-in_err-fragment-clause-gives : goal.returns-in_err-fragment-clause-gives
returns-in_err-fragment-clause-gives g c =
    let l = c.loop-fragments in
    let p = err_from_is_err_and c.from_residual.result c.from_residual.ensures.1 in
    rw (p.1, p.2) (item_fails piece_of (piece_at word_of (g.E.Expander.expansion c.args.context.now.expander.now)) l.fragments.items l.invariant.0 (ahead l.cursor) _ l.invariant.1 l.invariant.2 c.in_err-fragment.field-0.0 c.in_err-fragment.ensures.gives)

pub loop-fragments-smaller : goal.loop-fragments-smaller
loop-fragments-smaller g c =
    let l = c.loop-fragments in
    let x = g.E.Expander.expansion c.args.context.now.expander.now in
    let is : c.in_ok-fragment.field-0 ≡ Some c.in-Some.fragment = cc c.in-Some.is in
    let read : piece_at word_of x (ahead l.cursor) ≡ Ok (Some (piece_of c.in-Some.fragment), ahead c.fragment.new.cursor) = rw is at c.in_ok-fragment.ensures.gives in
    piece_shrinks word_of x (ahead l.cursor) (Some (piece_of c.in-Some.fragment), ahead c.fragment.new.cursor) read

pub loop-fragments-preserved : goal.loop-fragments-preserved
loop-fragments-preserved g c =
    let l = c.loop-fragments in
    let x = g.E.Expander.expansion c.args.context.now.expander.now in
    let is : c.in_ok-fragment.field-0 ≡ Some c.in-Some.fragment = cc c.in-Some.is in
    let read : piece_at word_of x (ahead l.cursor) ≡ Ok (Some (piece_of c.in-Some.fragment), ahead c.fragment.new.cursor) = rw is at c.in_ok-fragment.ensures.gives in
    let less = piece_shrinks word_of x (ahead l.cursor) (Some (piece_of c.in-Some.fragment), ahead c.fragment.new.cursor) read in
    let pushed : c.push_compact.new.list.items ≡ l.fragments.items ++ c.in-Some.fragment ∷ [] = search rules in
    (l.invariant.0 - 1, omega (arith, less, l.invariant.1), rw pushed (one_more piece_of (piece_at word_of x) l.fragments.items l.invariant.0 (ahead l.cursor) _ l.invariant.1 l.invariant.2 c.in-Some.fragment (ahead c.fragment.new.cursor) read), rw pushed (all_more (IsFragmentCooked (origin_of g.E.Expander.expansion c.args.context.now)) l.fragments.items c.in-Some.fragment l.invariant.3 (rw is at c.in_ok-fragment.ensures.cooked)))

pub returns-clause-gives : goal.returns-clause-gives
returns-clause-gives g c =
    let l = c.loop-fragments in
    let x = g.E.Expander.expansion c.args.context.now.expander.now in
    let none : c.in_ok-fragment.field-0 ≡ None = c.in_default.is in
    let read : piece_at word_of x (ahead l.cursor) ≡ Ok (None, ahead c.fragment.new.cursor) = rw none at c.in_ok-fragment.ensures.gives in
    none_left piece_of (piece_at word_of x) l.fragments.items l.invariant.0 (ahead l.cursor) _ l.invariant.1 l.invariant.2 (ahead c.fragment.new.cursor) read
