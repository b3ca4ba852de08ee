-- The starts before k are counted.
use Rattle.std.proofs.Common.{◌≡◌, ◌≤◌, ◌-◌, take, length}
use Rattle.just_value.specs.Blocks.{StartUpTo, elements}
use Rattle.just_value.proofs.blocks.count_starts.Given as goal

abbrev pub invariant-loop-block : goal.invariant-loop-block
invariant-loop-block g l = (length l.blocks ≤ length l.starts.items) × (l.start ≡ length (elements (take (l.block - 1) l.blocks))) × StartUpTo l.block l.blocks l.starts.items
