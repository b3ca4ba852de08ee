use Rattle.std.proofs.Common.{◌≡◌, length}
use Rattle.resolve_order.proofs.graph.empty_rows.Given as goal

-- so many rows
abbrev pub invariant-loop : goal.invariant-loop
invariant-loop l = length l.rows.items ≡ l.counter
