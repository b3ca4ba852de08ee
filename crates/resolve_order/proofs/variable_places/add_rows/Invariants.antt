use Rattle.resolve_order.specs.Needs.{rows as rows_of}
use Rattle.resolve_order.specs.Contracted.{IsContracted}
use Rattle.resolve_order.proofs.variable_places.add_rows.Given as goal

-- the first places lead where they lead in the graph
abbrev pub invariant-loop-place : goal.invariant-loop-place
invariant-loop-place l = IsContracted (rows_of l.graph) l.variables l.representatives l.place (rows_of l.rows)
