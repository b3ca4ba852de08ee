-- The recipes that run are marked.
use Rattle.std.proofs.Common.{[], ◌∙◌, ap, map, subst}
use Rattle.resolve_order.specs.Flooded.{AreReached}
use Rattle.resolve_order.specs.Needs.{rows as rows_in}
use Rattle.resolve_order.proofs.Contraction.{if_ok}
use Rattle.resolve_analysis.specs.Opening as spec
use Rattle.resolve_analysis.specs.Opening.{AreRows, needs_of}
use Rattle.resolve_analysis.proofs.Evaluated.{read_rows}
use Rattle.resolve_analysis.proofs.opening.recipe_reads.Goals as goal

pub returns : goal.returns
returns c =
    let marks = c.in_ok-marks.marks.items in
    let reached : AreReached (map (needs_of c.args.no_dependencies) c.args.recipes.now) [] c.args.called.now marks =
    subst (λ g. AreReached g [] c.args.called.now marks) (ap rows_in c.as_slice.ensures.value ∙ c.in_ok-graph.ensures) c.in_ok-marks.ensures in
    if_ok c.marked_reads.result c.marked_reads.ensures (λ rows a.
    read_rows c.args.recipes.now c.args.no_dependencies c.args.called.now marks reached c.args.count (rows_in rows.items)
    (subst (λ ms. AreRows c.args.count (λ home. spec.marked_reads home c.args.recipes.now ms) (rows_in rows.items)) c.as_slice-2.ensures.value a))
