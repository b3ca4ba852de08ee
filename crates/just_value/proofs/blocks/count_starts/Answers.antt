-- Sums stay within the count of all.
use Rattle.std.proofs.Common.{length, ◌-◌, ap, arith}
use Rattle.just_value.proofs.InBlocks.{no_more}
use Rattle.just_value.proofs.blocks.count_starts.Goals as goal

pub overflow_add-start : goal.overflow_add-start
overflow_add-start g c = omega (arith, no_more c.args.blocks.now (c.loop-block.block - 1) c.index-blocks-block.result (omega (arith, c.loop-block-test.true, c.loop-block.auto.block)), c.requires.small, ap (λ v. length v.items) c.index-blocks-block.is, c.len-start.ensures, c.index-blocks-block.result.ok.0, c.loop-block.invariant.1)
