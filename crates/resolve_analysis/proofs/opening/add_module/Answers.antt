-- What is marked is opened.
use Rattle.std.proofs.Common.{◌≡◌, ◌++◌, ◌∙◌, ap, subst}
use Rattle.std.proofs.lemmas.Result.{on_ok_weaker}
use Rattle.resolve_order.specs.Flooded.{AreReached}
use Rattle.resolve_order.specs.Needs.{rows}
use Rattle.resolve_analysis.specs.Lists.{numbers_in}
use Rattle.resolve_analysis.specs.Opening.{wanted_from}
use Rattle.resolve_analysis.specs.Unions.{Has, IsMarkedNumber, IsUnion}
use Rattle.resolve_analysis.proofs.Evaluated.{marked_opened}
use Rattle.resolve_analysis.proofs.opening.add_module.Goals as goal

pub returns : goal.returns
returns c =
    let all = c.args.exports_all in
    let lists = c.args.lists.now in
    let reads = c.args.reads.now in
    let row = c.args.row.now in
    let marks = c.in_ok-marks.marks.items in
    let roots : c.as_slice-2.result.now ≡ row ++ wanted_from all 0 lists.assignments.items =
    c.as_slice-2.ensures.value ∙ c.in_ok-add_wanted.ensures
    ∙ ap (λ old. old ++ wanted_from all 0 c.as_slice.result.now) (c.in_ok-places.ensures.items_if_clones_equal (λ x y e. e))
    ∙ ap (λ vs. row ++ wanted_from all 0 vs) c.as_slice.ensures.value in
    on_ok_weaker c.add_marked.result (λ u.
    marked_opened all lists reads row marks
    (subst (λ rs. AreReached (rows reads.graph.items) reads.overridden.items rs marks) roots c.in_ok-marks.ensures)
    (subst (λ ms. IsUnion (Has c.args.numbers.now) (IsMarkedNumber (numbers_in lists.assignments.items) ms) (Has c.add_marked.new.numbers)) c.as_slice-3.ensures.value u))
    c.add_marked.ensures
