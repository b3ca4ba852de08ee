-- The lists are those of the modules before the place.
use Rattle.std.proofs.Common.{◌≡◌, map, take}
use Rattle.resolve_analysis.specs.Lists.{kept_by, kept_in}
use Rattle.resolve_analysis.proofs.module_lists.all_lists.Given as goal

abbrev pub invariant-loop-node : goal.invariant-loop-node
invariant-loop-node l = map kept_in l.all.items ≡ map (kept_by l.compilation) (take l.node-index l.compilation.modules.items)
