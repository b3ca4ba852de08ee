-- The folders of the modules before the place.
use Rattle.std.proofs.Common.{◌≡◌, map, take}
use Rattle.just_resolve.specs.Settling.{folder_of}
use Rattle.just_resolve.proofs.known_values.folders.Given as goal

abbrev pub invariant-loop-node : goal.invariant-loop-node
invariant-loop-node l = l.folders.items ≡ map (λ node. folder_of l.base node.source.now) (take l.node-index l.modules)
