-- One element settles the answer, or those that are left do.
use Rattle.std.proofs.Common.{◌≡◌, ◌<◌, ◌≤◌, true, false, length, sym, ◌∙◌, arith}
use Rattle.tree_items.specs.Lines.{pieces_of}
use Rattle.tree_items.specs.Printable.{has_return}
use Rattle.tree_items.proofs.Apart.{one_does, passes_any, no_more_any}
use Rattle.tree_items.proofs.printable.any_return.Goals as goal

pub loop-line-preserved : goal.loop-line-preserved
loop-line-preserved c =
    let lines = c.args.lines.now in
    let lt : c.loop-line.line-index < length lines = omega arith in
    let so : has_return (pieces_of c.line-item.result) ≡ false = sym c.has_return.ensures ∙ c.if-has_return.false in
    passes_any has_return pieces_of lines c.loop-line.line-index c.line-item.result lt c.line-item.is so ∙ c.loop-line.invariant

pub returns-then-has_return : goal.returns-then-has_return
returns-then-has_return c =
    let lines = c.args.lines.now in
    let lt : c.loop-line.line-index < length lines = omega arith in
    let so : has_return (pieces_of c.line-item.result) ≡ true = sym c.has_return.ensures ∙ c.if-has_return.true in
    sym (one_does has_return pieces_of lines c.loop-line.line-index c.line-item.result lt c.line-item.is so)

pub returns : goal.returns
returns c =
    let le : length c.args.lines.now ≤ c.loop-line.line-index = omega arith in
    sym (no_more_any has_return pieces_of c.args.lines.now c.loop-line.line-index le) ∙ c.loop-line.invariant
