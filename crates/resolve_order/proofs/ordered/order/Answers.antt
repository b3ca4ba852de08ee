-- When each thing was looked at and none waits, the order is whole.
use Rattle.std.proofs.Common.{◌≡◌, sym, subst, refl, arith, length}
use Rattle.std.proofs.lemmas.List.{length-map}
use Rattle.resolve_order.specs.Needs.{rows}
use Rattle.resolve_order.specs.Order.{IsOrder}
use Rattle.resolve_order.proofs.Ranks.{search_orders, no_cycle}
use Rattle.resolve_order.proofs.Turns.{search_along}
use Rattle.resolve_order.proofs.ordered.order.Goals as goal

pub returns-clause-order : goal.returns-clause-order
returns-clause-order c =
    let n : length (rows c.args.needs.now) ≡ length c.args.needs.now = length-map c.args.needs.now (λ row. row.items) in
    subst (IsOrder (rows c.args.needs.now)) (sym c.into_order.ensures)
    (search_orders (search_along c.loop-place.invariant.search refl (sym c.loop-place.invariant.empty) refl) (λ place lt is. c.loop-place.invariant.looked place (omega arith) is))

pub returns-clause-no_cycle : goal.returns-clause-no_cycle
returns-clause-no_cycle c =
    let n : length (rows c.args.needs.now) ≡ length c.args.needs.now = length-map c.args.needs.now (λ row. row.items) in
    no_cycle (search_orders (search_along c.loop-place.invariant.search refl (sym c.loop-place.invariant.empty) refl) (λ place lt is. c.loop-place.invariant.looked place (omega arith) is))
