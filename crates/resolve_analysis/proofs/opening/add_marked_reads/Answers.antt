-- One recipe more, and none left.
use Rattle.std.proofs.Common.{◌<◌, ◌≤◌, ◌++◌, ap, arith, length, min, sym, ◌∙◌}
use Rattle.std.specs.Prelude.{option_map, slice_get}
use Rattle.resolve_order.specs.Needs.{rows}
use Rattle.resolve_recipes.proofs.Resolving.{next_at, next_of}
use Rattle.resolve_analysis.proofs.Rows.{reads_end, reads_more, same_row}
use Rattle.resolve_analysis.proofs.opening.add_marked_reads.Goals as goal

pub loop-place-preserved : goal.loop-place-preserved
loop-place-preserved c home =
    let i = c.loop-place.place in
    let m = c.min-place-end.ensures in
    let one : i < length c.args.recipes.now = omega (arith, m, c.loop-place-test.true) in
    let two : i < length c.args.marks.now = omega (arith, m, c.loop-place-test.true) in
    reads_more home c.args.recipes.now c.args.marks.now i c.index-recipes-place.result _ (slice_get (rows c.loop-place.rows) home) (slice_get (rows c.add_if_marked.new.rows) home)
    (next_of c.args.recipes.now i c.index-recipes-place.result one c.index-recipes-place.is)
    (next_at c.args.marks.now i _ two)
    (c.in_ok-add_if_marked.ensures home)
    ∙ c.loop-place.invariant home

pub returns : goal.returns
returns c home =
    let m = c.min-place-end.ensures in
    let past : min (length c.args.recipes.now) (length c.args.marks.now) ≤ c.loop-place.place = omega (arith, m, c.loop-place-test.false) in
    same_row (slice_get (rows c.loop-place.rows) home)
    ∙ ap (λ more. option_map (λ row. row ++ more) (slice_get (rows c.loop-place.rows) home)) (sym (reads_end home c.args.recipes.now c.args.marks.now c.loop-place.place past))
    ∙ c.loop-place.invariant home
