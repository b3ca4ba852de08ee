use Rattle.std.proofs.Common.{take}
use Rattle.resolve_order.specs.Needs.{rows as rows_of}
use Rattle.resolve_order.specs.Contracted.{Grows}
use Rattle.resolve_order.proofs.Contraction.{AreLed}
use Rattle.resolve_order.proofs.variable_places.add_row.Given as goal

-- the first places are led to
abbrev pub invariant-loop-read : goal.invariant-loop-read
invariant-loop-read l = record {
  grows : Grows (rows_of l.initial.rows) (rows_of l.rows);
  led : AreLed l.variables l.representatives (rows_of l.rows) l.own (take l.read-index l.places);
}
