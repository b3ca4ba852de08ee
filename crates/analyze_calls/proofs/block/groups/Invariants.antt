-- What is left gives the groups that are left.
use Rattle.std.proofs.Common.{◌≡◌, drop}
use Rattle.analyze_calls.proofs.Blocks.{AreShared}
use Rattle.analyze_calls.proofs.block.groups.Given as goal

abbrev pub invariant-loop-parameter : goal.invariant-loop-parameter
invariant-loop-parameter l = AreShared l.parameters l.fn.values.items l.groups.items (drop l.parameter-index l.parameters) l.remaining
