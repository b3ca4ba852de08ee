-- A variable more, and none left.
use Rattle.std.proofs.Common.{◌≤◌, ◌<◌, ◌+◌, ◌++◌, ◌∙◌, ap, arith, drop, length, sym}
use Rattle.std.proofs.Math.ListN.{drop_of_length-le}
use Rattle.std.proofs.lemmas.List.{append-nil}
use Rattle.evaluate_context.specs.declared.context.AssignmentRef.{AssignmentRef}
use Rattle.resolve_analysis.specs.Lists.{variable_at, variable_of, variables_at, variables_in}
use Rattle.resolve_recipes.proofs.Resolving.{next_at}
use Rattle.resolve_analysis.proofs.Mapped.{given_more, given_none}
use Rattle.resolve_analysis.proofs.Kept.{not_variable}
use Rattle.resolve_analysis.proofs.module_lists.assignments.Goals as goal
use Rattle.resolve_analysis.proofs.module_lists.assignments.Goals.{in-Some+in_ok-push, in_default}

pub loop-place-preserved : goal.loop-place-preserved
loop-place-preserved c =
    let compilation = c.args.compilation.now in
    let places = c.args.places.now in
    let i = c.loop-place.place-index in
    let lt : i < length places = c.loop-place-test.true in
    let before = c.loop-place.list.items in
    let rest = drop (i + 1) places in
    elim c.match-assignment.branch [
      | in-Some+in_ok-push w ↦
          ap (λ list. variables_in list.items ++ variables_at compilation rest) w.list-is
          ∙ given_more (λ (lent : AssignmentRef). lent.assignment.now) (variable_at compilation) _ (drop i places) rest before (next_at places i _ lt) w.push.new.self.items _ (ap variable_of w.in-Some.ensures.found) w.in_ok-push.ensures.items
          ∙ c.loop-place.invariant
      | in_default w ↦
          ap (λ list. variables_in list.items ++ variables_at compilation rest) w.list-is
          ∙ given_none (λ (lent : AssignmentRef). lent.assignment.now) (variable_at compilation) _ (drop i places) rest before (next_at places i _ lt) (not_variable _ (sym w.in_default.ensures.there))
          ∙ c.loop-place.invariant
    ]

pub returns : goal.returns
returns c =
    let past : length c.args.places.now ≤ c.loop-place.place-index = omega (arith, c.loop-place-test.false) in
    sym (append-nil (variables_in c.loop-place.list.items))
    ∙ ap (λ places. variables_in c.loop-place.list.items ++ variables_at c.args.compilation.now places) (sym (drop_of_length-le c.args.places.now past))
    ∙ c.loop-place.invariant
