-- The contexts are those of the modules before the place.
use Rattle.std.proofs.Common.{take}
use Rattle.std.specs.List.{AllZip}
use Rattle.resolve_analysis.specs.Bound.{AreNamesOf}
use Rattle.resolve_analysis.proofs.numbers.all_names.Given as goal

abbrev pub invariant-loop-node : goal.invariant-loop-node
invariant-loop-node l = AllZip (AreNamesOf l.compilation) (take l.node-index l.compilation.modules.items) l.all.items
