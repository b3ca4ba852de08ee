-- One place more.
use Rattle.std.proofs.Common.{◌≡◌, ◌<◌, ◌≤◌, ◌∙◌, ap, arith, length, min, get_or, None}
use Rattle.std.specs.Prelude.{option_map}
use Rattle.std.proofs.lemmas.List.{length-map}
use Rattle.std.proofs.lemmas.Option.{slice_get-get_or, slice_get-map}
use Rattle.evaluate_context.specs.declared.context.AssignmentRef.{AssignmentRef}
use Rattle.resolve_analysis.specs.Lists.{numbers_in}
use Rattle.resolve_analysis.proofs.Marking.{marked_all, marked_more, marked_none}
use Rattle.resolve_analysis.proofs.marked.add_all.Goals as goal

pub loop-place-init : goal.loop-place-init
loop-place-init c = marked_none (numbers_in c.args.assignments.now) c.args.marks.now

pub loop-place-preserved : goal.loop-place-preserved
loop-place-preserved c =
    let i = c.loop-place.place in
    let x = c.index-assignments-place.result in
    let m = c.min-place-end.ensures in
    let one : i < length c.args.assignments.now = omega (arith, m, c.loop-place-test.true) in
    let two : i < length c.args.marks.now = omega (arith, m, c.loop-place-test.true) in
    marked_more i (numbers_in c.args.assignments.now) c.args.marks.now (get_or c.args.marks.now i None) (get_or c.args.assignments.now i x).assignment.now.number
    (slice_get-map (λ (lent : AssignmentRef). lent.assignment.now.number) c.args.assignments.now i ∙ ap (option_map (λ (lent : AssignmentRef). lent.assignment.now.number)) (slice_get-get_or c.args.assignments.now i x one))
    (slice_get-get_or c.args.marks.now i None two)
    c.loop-place.invariant c.in_ok-add_if_marked.ensures

pub returns : goal.returns
returns c =
    let m = c.min-place-end.ensures in
    let many : length (numbers_in c.args.assignments.now) ≡ length c.args.assignments.now = length-map c.args.assignments.now (λ (lent : AssignmentRef). lent.assignment.now.number) in
    let past : min (length (numbers_in c.args.assignments.now)) (length c.args.marks.now) ≤ c.loop-place.place = omega (arith, m, many, c.loop-place-test.false) in
    marked_all c.loop-place.place (numbers_in c.args.assignments.now) c.args.marks.now past c.loop-place.invariant
