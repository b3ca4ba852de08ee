-- The rest is a piece, a tab and what follows, or a last piece without tabs.
use Rattle.std.proofs.Common.{arith}
use Rattle.just_lexer.proofs.Widths.{columns-split, columns-unsplit}
use Rattle.just_lexer.proofs.width.columns.Goals as goal

pub loop-piece-preserved : goal.loop-piece-preserved
loop-piece-preserved c =
    let split = columns-split c.loop-piece.rest.now c.in-Some.piece c.in-Some.more c.loop-piece.invariant.0 c.in-Some.ensures.cases in
    (split.0, omega (arith, split.1, c.width.ensures.value, c.loop-piece.invariant.1), omega (arith, split.2, c.width.ensures.bound, c.loop-piece.invariant.2))

pub returns : goal.returns
returns c =
    let last = columns-unsplit c.loop-piece.rest.now c.split_once.result c.loop-piece.invariant.0 c.split_once.ensures.cases c.in_default.not-Some in
    omega (arith, last, c.width-2.ensures.value, c.loop-piece.invariant.1)
