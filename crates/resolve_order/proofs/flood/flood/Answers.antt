-- One turn more, and fewer leads are left.
use Rattle.std.proofs.Common.{◌<◌, ◌+◌, sym, subst, length}
use Rattle.resolve_order.specs.Needs.{rows}
use Rattle.resolve_order.specs.Flooded.{IsFlooded, work}
use Rattle.resolve_order.proofs.Flooding.{flooded_none, flooded_more, nearer}
use Rattle.resolve_order.proofs.flood.flood.Goals as goal

pub loop-place-init : goal.loop-place-init
loop-place-init c = flooded_none (rows c.args.graph.now) c.args.stops.now c.args.stack.now.items c.args.marks.now

pub loop-place-smaller : goal.loop-place-smaller
loop-place-smaller c =
    let graph = rows c.args.graph.now in
    subst (λ waits. work c.visit.new.marks graph + length c.visit.new.stack.items < work c.loop-place.marks graph + length waits) (sym c.in-Some.ensures.items)
    (nearer graph c.args.stops.now c.args.mark c.in-Some.place c.loop-place.marks c.visit.new.marks c.pop.new.self.items c.visit.new.stack.items c.in_ok-visit.ensures)

pub loop-place-preserved : goal.loop-place-preserved
loop-place-preserved c =
    flooded_more (rows c.args.graph.now) c.args.stops.now c.args.stack.now.items c.args.marks.now c.args.mark c.in-Some.place c.loop-place.marks c.visit.new.marks c.pop.new.self.items c.visit.new.stack.items
    (subst (IsFlooded (rows c.args.graph.now) c.args.stops.now c.args.stack.now.items c.args.marks.now c.loop-place.marks) c.in-Some.ensures.items c.loop-place.invariant) c.in_ok-visit.ensures
