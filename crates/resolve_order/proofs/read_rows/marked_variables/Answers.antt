-- One more place, and all of them.
use Rattle.std.proofs.Common.{◌≤◌, length, min, arith}
use Rattle.resolve_order.proofs.Reading.{marked_more, marked_all}
use Rattle.resolve_order.proofs.read_rows.marked_variables.Goals as goal

pub loop-place-preserved : goal.loop-place-preserved
loop-place-preserved c = marked_more c.loop-place.place c.loop-place.invariant c.in_ok-add_marked.ensures

pub returns : goal.returns
returns c =
    let m = c.min-place-end.ensures in
    let over : min c.args.variables (length c.args.marks.now) ≤ c.loop-place.place = omega (arith, m) in
    let up : c.loop-place.place ≤ c.args.variables = omega (arith, m) in
    marked_all c.args.variables c.loop-place.place over up c.loop-place.invariant
