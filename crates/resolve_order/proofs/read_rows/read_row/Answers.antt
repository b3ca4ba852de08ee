-- What is marked is read.
use Rattle.std.proofs.Common.{subst}
use Rattle.resolve_order.specs.Needs.{rows as rows_of}
use Rattle.resolve_order.specs.Flooded.{AreReached}
use Rattle.resolve_order.specs.Cycles.{IsMarkedRow}
use Rattle.resolve_order.proofs.Contraction.{if_ok}
use Rattle.resolve_order.proofs.Reading.{read_row_of}
use Rattle.resolve_order.proofs.read_rows.read_row.Goals as goal

pub returns : goal.returns
returns c =
    let graph = rows_of c.args.graph.now in
    let marks = c.in_ok-marks.marks.items in
    if_ok c.marked_variables.result c.marked_variables.ensures (λ row m. read_row_of graph c.args.variables c.args.stops.now c.requires c.args.place marks row.items
    (subst (λ roots. AreReached graph c.args.stops.now roots marks) c.leads.ensures c.in_ok-marks.ensures)
    (subst (λ ms. IsMarkedRow ms c.args.variables row.items) c.as_slice.ensures.value m))
