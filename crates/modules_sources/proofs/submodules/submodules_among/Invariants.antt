-- The submodules of the items so far.
use Rattle.std.proofs.Common.{map, take}
use Rattle.modules_sources.specs.Submodules.{AreFound, found_view}
use Rattle.modules_sources.proofs.submodules.submodules_among.Given as goal

abbrev pub invariant-loop-place : goal.invariant-loop-place
invariant-loop-place l = AreFound l.files l.os l.key (take l.place l.items) (map found_view l.found.items)
