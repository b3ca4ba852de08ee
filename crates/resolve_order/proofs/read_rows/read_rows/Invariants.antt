use Rattle.resolve_order.specs.Needs.{rows as rows_of}
use Rattle.resolve_order.specs.Cycles.{AreReadRows}
use Rattle.resolve_order.proofs.read_rows.read_rows.Given as goal

-- those of the first places
abbrev pub invariant-loop-place : goal.invariant-loop-place
invariant-loop-place l = AreReadRows (rows_of l.graph) l.variables l.place (rows_of l.rows.items)
