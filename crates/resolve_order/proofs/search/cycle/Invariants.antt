use Rattle.std.proofs.Common.{◌≡◌, map, take}
use Rattle.resolve_order.specs.Search.{frame_shape, frame_place}
use Rattle.resolve_order.proofs.search.cycle.Given as goal

-- the places of the frames so far
abbrev pub invariant-loop-frame : goal.invariant-loop-frame
invariant-loop-frame l = l.places.items ≡ map frame_place (map frame_shape (take l.frame-index l.frames))
