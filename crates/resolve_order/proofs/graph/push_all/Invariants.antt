use Rattle.std.proofs.Common.{◌≡◌, ◌++◌, take}
use Rattle.resolve_order.proofs.graph.push_all.Given as goal

-- the first of them
abbrev pub invariant-loop-place : goal.invariant-loop-place
invariant-loop-place l = l.stack.items ≡ l.initial.stack.items ++ take l.place-index l.places
