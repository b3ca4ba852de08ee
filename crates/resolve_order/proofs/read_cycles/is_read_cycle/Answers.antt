-- A closed walk of which each step is reached is a cycle.
use Rattle.std.proofs.Common.{◌≡◌, true, length, rules, subst}
use Rattle.resolve_order.specs.Needs.{rows as rows_of}
use Rattle.resolve_order.specs.Cycles.{ReachNext}
use Rattle.resolve_order.proofs.Contraction.{if_ok}
use Rattle.resolve_order.proofs.Cycles.{cycle_of}
use Rattle.resolve_order.proofs.read_cycles.is_read_cycle.Goals as goal

pub returns : goal.returns
returns c =
    let graph = rows_of c.args.graph.now in
    let places = c.args.places.now in
    let yes : c.is_closed.result ≡ true = search rules in
    if_ok c.each_reaches_next.result c.each_reaches_next.ensures (λ is reach e. cycle_of graph c.args.variables c.in_ok-stops.stops.items c.in_ok-stops.ensures places (c.is_closed.ensures yes) (subst (λ stops. ReachNext graph stops places (length places)) c.as_slice.ensures.value (reach e)))
