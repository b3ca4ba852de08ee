use Rattle.resolve_order.specs.Cycles.{IsMarkedRow}
use Rattle.resolve_order.proofs.read_rows.marked_variables.Given as goal

-- those of the first places
abbrev pub invariant-loop-place : goal.invariant-loop-place
invariant-loop-place l = IsMarkedRow l.marks l.place l.row.items
