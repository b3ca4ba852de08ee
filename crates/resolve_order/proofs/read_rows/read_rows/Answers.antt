-- One more row.
use Rattle.std.proofs.Common.{ℕ, ◌+◌, ◌∙◌, ap, sym, subst}
use Rattle.std.specs.Global.{Vec}
use Rattle.std.proofs.lemmas.List.{map_push}
use Rattle.resolve_order.specs.Needs.{rows as rows_of}
use Rattle.resolve_order.specs.Cycles.{AreReadRows}
use Rattle.resolve_order.proofs.Reading.{read_more}
use Rattle.resolve_order.proofs.read_rows.read_rows.Goals as goal

pub loop-place-preserved : goal.loop-place-preserved
loop-place-preserved c =
    let before = c.loop-place.rows.items in
    let row = c.in_ok-read_row.field-0 in
    subst (AreReadRows (rows_of c.args.graph.now) c.args.variables (c.loop-place.place + 1)) (sym (ap rows_of c.in_ok-push.ensures.items ∙ map_push (λ (r : Vec ℕ). r.items) before row))
    (read_more row.items c.loop-place.invariant c.in_ok-read_row.ensures)
