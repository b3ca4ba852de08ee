-- One row more is looked at.
use Rattle.std.proofs.Common.{◌+◌, ◌∙◌, replicate, set, ap, subst, sym, arith}
use Rattle.std.proofs.Math.ListN.{drop_of_length-le}
use Rattle.analyze_calls.specs.Opening.{opened_row, opened_rows}
use Rattle.analyze_calls.specs.declared.opening.Opened.{Opened}
use Rattle.run_tasks.proofs.Standing.{AreSoFar, all_so_far, as_many, none_so_far, one_so_far, passed_so_far, row_of_opened}
use Rattle.run_tasks.proofs.opened.positions.Goals.{then-module-len, else-module-len}
use Rattle.run_tasks.proofs.opened.positions.Goals as goal

pub returns : goal.returns
returns c =
    let le = c.loop-place-test.false in
    let many = as_many c.args.opened.now in
    all_so_far _ _ c.loop-place.place c.loop-place.positions.items (drop_of_length-le (opened_rows c.args.opened.now) (omega (arith, le, many))) c.loop-place.invariant

pub loop-place-init : goal.loop-place-init
loop-place-init c =
    none_so_far _ _ c.in_ok-positions.positions.items (c.in_ok-positions.ensures.items_if_clones_equal (λ y e. e) ∙ ap (replicate c.args.count) (sym (as_many c.args.opened.now)))

pub loop-place-preserved : goal.loop-place-preserved
loop-place-preserved c =
    let lt = c.loop-place-test.true in
    let many = as_many c.args.opened.now in
    let one = opened_row c.index-opened-place.result in
    let is = row_of_opened c.args.opened.now c.loop-place.place c.index-opened-place.result lt c.index-opened-place.is in
    let len = c.len.ensures in
    let ok = c.loop-place.positions.ok in
    let same = ap (λ (o : Opened). o.module) c.index-opened-place.is in
    elim c.if-module-len.branch [
      | then-module-len w ↦
          let test = w.if-module-len.true in
          rw w.positions-is (subst (λ (o : Opened). AreSoFar (opened_rows c.args.opened.now) c.args.count (c.loop-place.place + 1) (set c.loop-place.positions.items o.module c.loop-place.place)) c.index-opened-place.is
          (one_so_far _ _ c.loop-place.place one c.loop-place.positions.items (omega (arith, lt, many)) is (omega (arith, test, len, ok, same)) c.loop-place.invariant))
      | else-module-len w ↦
          let test = w.if-module-len.false in
          rw w.positions-is (passed_so_far _ _ c.loop-place.place one c.loop-place.positions.items (omega (arith, lt, many)) is (omega (arith, test, len, ok, same)) c.loop-place.invariant)
    ]
