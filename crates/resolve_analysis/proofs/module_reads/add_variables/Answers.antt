-- A variable more.
use Rattle.std.proofs.Common.{◌∙◌, ap, cond, nat_eq, sym, Some}
use Rattle.evaluate_context.specs.declared.context.AssignmentRef.{AssignmentRef}
use Rattle.resolve_references.specs.Places.{variable_in}
use Rattle.resolve_analysis.specs.Reads.{place_if_numbered}
use Rattle.resolve_recipes.proofs.Resolving.{next_of}
use Rattle.resolve_analysis.proofs.Resolving.{found_more, or_put}
use Rattle.resolve_analysis.proofs.module_reads.add_variables.Goals as goal

pub loop-place-preserved : goal.loop-place-preserved
loop-place-preserved c =
    let i = c.loop-place.place in
    let x = c.index-assignments-place.result in
    record {
      places = λ number.
          found_more (place_if_numbered number) (λ (lent : AssignmentRef). lent.assignment.now) c.args.assignments.now i x (variable_in c.loop-place.resolver number) (variable_in c.add_variable.new.self number)
          (next_of c.args.assignments.now i x c.loop-place-test.true c.index-assignments-place.is)
          (c.in_ok-add_variable.ensures.places number
          ∙ ap (λ (lent : AssignmentRef). cond (nat_eq lent.assignment.now.number number) (Some i) (variable_in c.loop-place.resolver number)) (sym c.index-assignments-place.is)
          ∙ or_put (nat_eq x.assignment.now.number number) i (variable_in c.loop-place.resolver number))
          ∙ c.loop-place.invariant.places number;
      variables = c.in_ok-add_variable.ensures.variables ∙ c.loop-place.invariant.variables;
      functions = c.in_ok-add_variable.ensures.functions ∙ c.loop-place.invariant.functions;
    }
