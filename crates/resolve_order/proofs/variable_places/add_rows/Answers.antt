-- One more row.
use Rattle.std.proofs.Common.{◌<◌, ◌∙◌, ap, sym, Some, subst, get_or, length, arith}
use Rattle.std.proofs.lemmas.Option.{slice_get-get_or}
use Rattle.resolve_order.specs.Needs.{rows as rows_of}
use Rattle.resolve_order.proofs.Contraction.{AreLed, contracted_more, get_row}
use Rattle.resolve_order.proofs.variable_places.add_rows.Goals as goal

pub loop-place-preserved : goal.loop-place-preserved
loop-place-preserved c =
    let each = c.requires.representatives.each in
    let lt : c.loop-place.place < length c.args.representatives.now = omega arith in
    let own = get_or c.args.representatives.now c.loop-place.place 0 in
    contracted_more c.loop-place.invariant c.in_ok-add_row.ensures.grows own c.index-graph-place.result.items (slice_get-get_or c.args.representatives.now c.loop-place.place 0 lt)
    (get_row c.args.graph.now c.loop-place.place c.index-graph-place.result c.loop-place-test.true ∙ ap (λ r. Some r.items) (sym c.index-graph-place.is))
    (subst (AreLed c.args.variables c.args.representatives.now (rows_of c.add_row.new.rows) own) c.as_slice.ensures.value c.in_ok-add_row.ensures.leads)
