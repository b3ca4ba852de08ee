-- One more place, a fault at it, or no place is left.
use Rattle.std.proofs.Common.{rules, refl}
use Rattle.std.proofs.lemmas.Result.{err_from_is_err_and}
use Rattle.analyze_calls.specs.Opening.{opened_rows}
use Rattle.analyze_calls.proofs.Beginnings.{begins_at, begins_end, begins_more}
use Rattle.analyze_calls.proofs.Openings.{opens_more, ended_at, opens_end}
use Rattle.analyze_calls.proofs.opening.open_modules.Goals as goal

pub loop-place-preserved : goal.loop-place-preserved
loop-place-preserved g c = record {
  asks = search rules;
  opens =
      opens_more c.args.opening.now c.args.modules.now c.args.order.now c.args.host.now.entries c.loop-place.place-index _ _ (opened_rows c.loop-place.opened.items) (opened_rows c.push_opened.new.opened.items)
      c.loop-place.host.entries c.push_opened.new.host.entries c.loop-place.invariant.opens c.loop-place-test.true refl c.in_ok-push_opened.ensures.opens;
  begins =
      begins_more c.args.opening.now c.args.modules.now c.args.order.now c.args.host.now.entries c.loop-place.place-index _ _ (opened_rows c.loop-place.opened.items) (opened_rows c.push_opened.new.opened.items)
      c.loop-place.host.entries c.push_opened.new.host.entries c.loop-place.invariant.begins c.loop-place-test.true refl c.in_ok-push_opened.ensures.opens;
}

pub returns-in_err-push_opened-clause-opens : goal.returns-in_err-push_opened-clause-opens
returns-in_err-push_opened-clause-opens g c =
    let p = err_from_is_err_and c.from_residual.result c.from_residual.ensures.1 in
    rw (p.1, p.2)
    (ended_at c.args.opening.now c.args.modules.now c.args.order.now c.args.host.now.entries c.loop-place.place-index _ _ (opened_rows c.loop-place.opened.items)
    c.loop-place.host.entries c.push_opened.new.host.entries c.in_err-push_opened.field-0.0 c.loop-place.invariant.opens c.loop-place-test.true refl c.in_err-push_opened.ensures.opens)

pub returns-clause-opens : goal.returns-clause-opens
returns-clause-opens g c =
    opens_end c.args.opening.now c.args.modules.now c.args.order.now c.args.host.now.entries c.loop-place.place-index (opened_rows c.loop-place.opened.items) c.loop-place.host.entries c.loop-place.invariant.opens c.loop-place-test.false

pub returns-in_err-push_opened-clause-begun : goal.returns-in_err-push_opened-clause-begun
returns-in_err-push_opened-clause-begun g c =
    begins_at c.args.opening.now c.args.modules.now c.args.order.now c.args.host.now.entries c.loop-place.place-index _ _
    c.loop-place.host.entries c.push_opened.new.host.entries c.loop-place.invariant.begins c.loop-place-test.true refl c.in_err-push_opened.ensures.begun

pub returns-clause-begun : goal.returns-clause-begun
returns-clause-begun g c = begins_end c.args.opening.now c.args.modules.now c.args.order.now c.args.host.now.entries c.loop-place.place-index c.loop-place.host.entries c.loop-place.invariant.begins
