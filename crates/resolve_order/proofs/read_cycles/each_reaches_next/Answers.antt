-- One more place, and all of them.
use Rattle.std.proofs.Common.{◌≡◌, ◌<◌, ◌≤◌, ◌-◌, true, get_or, length, rules, arith}
use Rattle.std.proofs.lemmas.Option.{slice_get-get_or}
use Rattle.resolve_order.specs.Needs.{rows as rows_of}
use Rattle.resolve_order.proofs.Cycles.{next_more, next_all}
use Rattle.resolve_order.proofs.read_cycles.each_reaches_next.Goals as goal

pub loop-at-preserved : goal.loop-at-preserved
loop-at-preserved c =
    let places = c.args.places.now in
    let at = c.loop-at.at in
    let yes : c.in_ok-reaches_stop.field-0 ≡ true = search rules in
    let here : at < length places = omega (arith, c.loop-at-test.true) in
    let before : at - 1 < length places = omega arith in
    record {
      positive = omega arith;
      next = next_more (rows_of c.args.graph.now) c.args.stops.now places at (get_or places (at - 1) 0) (get_or places at 0) c.loop-at.invariant.positive c.loop-at.invariant.next (slice_get-get_or places (at - 1) 0 before) (slice_get-get_or places at 0 here) (c.in_ok-reaches_stop.ensures yes);
    }

pub returns : goal.returns
returns c = λ e.
    let over : length c.args.places.now ≤ c.loop-at.at = omega (arith, c.loop-at-test.false) in
    next_all (rows_of c.args.graph.now) c.args.stops.now c.args.places.now c.loop-at.at over c.loop-at.invariant.next
