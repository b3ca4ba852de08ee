-- Nothing is put where there is no mark.
use Rattle.std.proofs.Common.{◌++◌, ◌∙◌, ap, sym}
use Rattle.std.specs.Prelude.{option_map, slice_get}
use Rattle.resolve_order.specs.Needs.{rows}
use Rattle.resolve_analysis.specs.Opening.{reads_if_marked}
use Rattle.resolve_analysis.proofs.Rows.{same_row}
use Rattle.resolve_analysis.proofs.opening.add_if_marked.Goals as goal

pub returns-in-None : goal.returns-in-None
returns-in-None c home =
    same_row (slice_get (rows c.args.rows.now) home)
    ∙ ap (λ mark. option_map (λ row. row ++ reads_if_marked home c.args.recipe.now mark) (slice_get (rows c.args.rows.now) home)) (sym c.in-None.is)
