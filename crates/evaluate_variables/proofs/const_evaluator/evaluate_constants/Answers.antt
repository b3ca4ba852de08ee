use Rattle.std.proofs.Common.{rules, ◌<◌, ◌≤◌, length, refl, arith}
use Rattle.std.specs.BTreeSet.{contains}
use Rattle.std.specs.Ordering.{nat_cmp}
use Rattle.std.proofs.lemmas.Result.{err_from_is_err_and}
use Rattle.evaluate_variables.specs.Settled.{values_in, excluded_in}
use Rattle.evaluate_variables.proofs.Settling.{settling_more, settling_fail, settling_end}
use Rattle.evaluate_variables.proofs.const_evaluator.evaluate_constants.Goals as goal

pub returns-in_err-evaluate_place-clause-settles : goal.returns-in_err-evaluate_place-clause-settles
returns-in_err-evaluate_place-clause-settles c =
    let first = c.args.constants.now in
    let places = c.args.evaluation_order.now in
    let lt : c.loop-place.place-index < length places = omega arith in
    let p = err_from_is_err_and c.from_residual.result c.from_residual.ensures.1 in
    rw (p.1, p.2) (λ n. settling_fail first.lists first.scope.outer c.args.overrides.now (contains nat_cmp c.args.references.now) c.args.assignments.now places (values_in first) (excluded_in first) c.loop-place.place-index _ _ (values_in c.loop-place.constants) _ (excluded_in c.loop-place.constants) _ _ c.loop-place.invariant.settles lt refl (rw (c.loop-place.invariant.lists, c.loop-place.invariant.around) at c.in_err-evaluate_place.ensures.settles n))

pub loop-place-preserved : goal.loop-place-preserved
loop-place-preserved c =
    let first = c.args.constants.now in
    let places = c.args.evaluation_order.now in
    let lt : c.loop-place.place-index < length places = omega arith in
    record {
      lists = search rules;
      around = search rules;
      settles = settling_more first.lists first.scope.outer c.args.overrides.now (contains nat_cmp c.args.references.now) c.args.assignments.now places (values_in first) (excluded_in first) c.loop-place.place-index _ _ (values_in c.loop-place.constants) _ (excluded_in c.loop-place.constants) _ c.loop-place.invariant.settles lt refl (rw (c.loop-place.invariant.lists, c.loop-place.invariant.around) at c.in_ok-evaluate_place.ensures.settles (λ e. cc));
    }

pub returns-clause-settles : goal.returns-clause-settles
returns-clause-settles c =
    let first = c.args.constants.now in
    let places = c.args.evaluation_order.now in
    let le : length places ≤ c.loop-place.place-index = omega arith in
    λ n. settling_end first.lists first.scope.outer c.args.overrides.now (contains nat_cmp c.args.references.now) c.args.assignments.now places (values_in first) (excluded_in first) c.loop-place.place-index (values_in c.loop-place.constants) (excluded_in c.loop-place.constants) c.loop-place.invariant.settles le
