-- The loop went through the shorter.
use Rattle.std.proofs.Common.{◌≡◌, ◌∙◌, min, length, arith}
use Rattle.tree_expressions.proofs.Lines.{all_shared}
use Rattle.tree_expressions.proofs.indentation.shared_len.Goals as goal

pub returns : goal.returns
returns c =
    let over : c.min-shorter.result ≡ c.loop-i.i = omega arith in
    let at : c.loop-i.i ≡ min (length c.args.left.now) (length c.args.right.now) = omega (arith, c.min-shorter.ensures) in
    over ∙ all_shared c.args.left.now c.args.right.now c.loop-i.i _ at c.loop-i.invariant
