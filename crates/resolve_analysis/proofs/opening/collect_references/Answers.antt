-- What is read are the places of the recipes that run.
use Rattle.std.proofs.Common.{◌≡◌, arith, length, subst, sym}
use Rattle.resolve_order.specs.Needs.{rows}
use Rattle.resolve_order.proofs.Contraction.{if_ok}
use Rattle.resolve_analysis.specs.Opening.{AreReadRows, IsReadByRecipe}
use Rattle.resolve_analysis.proofs.Evaluated.{evaluated, numbered}
use Rattle.resolve_analysis.proofs.opening.collect_references.Goals as goal

pub returns : goal.returns
returns c =
    let vs = c.args.variables.now in
    let many : c.len-count.result ≡ length vs.lists.items = omega (arith, c.len-count.ensures, vs.lists.ok.0) in
    let there = rows c.as_slice.result.now in
    let r : AreReadRows (length vs.lists.items) (IsReadByRecipe c.args.recipes.now c.args.no_dependencies c.args.called.now) there =
    subst (λ items. AreReadRows (length vs.lists.items) (IsReadByRecipe c.args.recipes.now c.args.no_dependencies c.args.called.now) (rows items)) (sym c.as_slice.ensures.value)
    (subst (λ n. AreReadRows n (IsReadByRecipe c.args.recipes.now c.args.no_dependencies c.args.called.now) (rows c.in_ok-rows.rows.items)) many c.in_ok-rows.ensures) in
    if_ok c.read_numbers.result c.read_numbers.ensures (λ numbers h n. (
      λ has. evaluated vs c.args.recipes.now c.args.settings.now c.args.called.now c.args.no_dependencies there r n ((h n).0 has),
      λ e. (h n).1 (numbered vs c.args.recipes.now c.args.settings.now c.args.called.now c.args.no_dependencies there r n e),
    ))
