-- The lists have gained the first definitions.
use Rattle.std.proofs.Common.{[], take}
use Rattle.modules_definitions.specs.Lists.{Gains}
use Rattle.modules_definitions.proofs.lists.put_all.Given as goal

abbrev pub invariant-loop-definition : goal.invariant-loop-definition
invariant-loop-definition l = Gains [] l.fn.node l.node (take l.definition-index l.kept)
