use Rattle.std.proofs.Common.{rules, ◌<◌, ◌≤◌, length, refl, arith}
use Rattle.std.proofs.lemmas.Result.{err_from_is_err_and}
use Rattle.evaluate_variables.specs.Opened.{reads}
use Rattle.evaluate_variables.proofs.Opening.{opens_begins, places_begin, places_more, places_fail, places_end}
use Rattle.evaluate_variables.proofs.assignments.open_assignments.Goals as goal

pub returns-in_err-open_place-clause-opens : goal.returns-in_err-open_place-clause-opens
returns-in_err-open_place-clause-opens g c =
    let module_ = c.args.context.now.module.now in
    let places = module_.evaluation_order.now in
    let lt : c.loop-place.place-index < length places = omega arith in
    let p = err_from_is_err_and c.from_residual.result c.from_residual.ensures.1 in
    rw (p.1, p.2) (λ n. places_fail c.args.context.now c.args.scope.now.outer (reads c.args.references) module_.assignments.now places c.args.scope.now.own c.args.host.now.entries c.loop-place.place-index _ _ c.loop-place.scope.own _ c.loop-place.host.entries _ _ c.loop-place.invariant.opens lt refl (rw c.loop-place.invariant.around at c.in_err-open_place.ensures.opens n))

pub loop-place-preserved : goal.loop-place-preserved
loop-place-preserved g c =
    let module_ = c.args.context.now.module.now in
    let places = module_.evaluation_order.now in
    let lt : c.loop-place.place-index < length places = omega arith in
    record {
      asks = search rules;
      around = search rules;
      opens = places_more c.args.context.now c.args.scope.now.outer (reads c.args.references) module_.assignments.now places c.args.scope.now.own c.args.host.now.entries c.loop-place.place-index _ _ c.loop-place.scope.own _ c.loop-place.host.entries _ c.loop-place.invariant.opens lt refl (rw c.loop-place.invariant.around at c.in_ok-open_place.ensures.opens (λ e. cc));
    }

pub returns-clause-opens : goal.returns-clause-opens
returns-clause-opens g c =
    let module_ = c.args.context.now.module.now in
    let places = module_.evaluation_order.now in
    let le : length places ≤ c.loop-place.place-index = omega arith in
    λ n. places_end c.args.context.now c.args.scope.now.outer (reads c.args.references) module_.assignments.now places c.args.scope.now.own c.args.host.now.entries c.loop-place.place-index c.loop-place.scope.own c.loop-place.host.entries c.loop-place.invariant.opens le

pub returns-in_err-open_place-clause-begun : goal.returns-in_err-open_place-clause-begun
returns-in_err-open_place-clause-begun g c =
    let module_ = c.args.context.now.module.now in
    let places = module_.evaluation_order.now in
    let lt : c.loop-place.place-index < length places = omega arith in
    places_begin c.args.context.now c.args.scope.now.outer (reads c.args.references) module_.assignments.now places c.args.scope.now.own c.args.host.now.entries c.loop-place.place-index _ _ c.loop-place.scope.own c.loop-place.host.entries _ c.loop-place.invariant.opens lt refl (rw c.loop-place.invariant.around at c.in_err-open_place.ensures.begun)

pub returns-clause-begun : goal.returns-clause-begun
returns-clause-begun g c =
    let module_ = c.args.context.now.module.now in
    let places = module_.evaluation_order.now in
    let le : length places ≤ c.loop-place.place-index = omega arith in
    opens_begins c.args.context.now c.args.scope.now.outer (reads c.args.references)
    (places_end c.args.context.now c.args.scope.now.outer (reads c.args.references) module_.assignments.now places c.args.scope.now.own c.args.host.now.entries c.loop-place.place-index c.loop-place.scope.own c.loop-place.host.entries c.loop-place.invariant.opens le)
