use Rattle.std.proofs.Common.{take}
use Rattle.modules_definitions.proofs.Holding.{HoldsAll}
use Rattle.modules_definitions.proofs.keep.kept.Given as goal

-- what is kept of the first definitions
abbrev pub invariant-loop-next : goal.invariant-loop-next
invariant-loop-next l = HoldsAll l.allowed (take l.next-index l.definitions) l.keeper.done.items l.keeper.last
