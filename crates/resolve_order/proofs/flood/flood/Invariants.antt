use Rattle.std.proofs.Common.{◌+◌, length}
use Rattle.resolve_order.specs.Needs.{rows}
use Rattle.resolve_order.specs.Flooded.{IsFlooded, work}
use Rattle.resolve_order.proofs.flood.flood.Given as goal

-- what is marked so far, and what waits
abbrev pub invariant-loop-place : goal.invariant-loop-place
invariant-loop-place l = IsFlooded (rows l.graph) l.stops l.initial.stack.items l.initial.marks l.marks l.stack.items

abbrev pub decreases-loop-place : goal.decreases-loop-place
decreases-loop-place l = work l.marks (rows l.graph) + length l.stack.items
