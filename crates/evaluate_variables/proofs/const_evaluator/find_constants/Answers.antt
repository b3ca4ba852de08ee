use Rattle.std.proofs.Common.{refl}
use Rattle.std.specs.BTreeSet.{contains}
use Rattle.std.specs.Ordering.{nat_cmp}
use Rattle.evaluate_variables.specs.Opened.{ordered}
use Rattle.evaluate_variables.specs.declared.const_evaluator.ConstEvaluator.{ConstEvaluator}
use Rattle.evaluate_variables.proofs.Settling.{finds_fault}
use Rattle.evaluate_variables.proofs.const_evaluator.find_constants.Goals as goal

pub returns-in-Err : goal.returns-in-Err
returns-in-Err c =
    let first : ConstEvaluator = record { scope = c.in_ok-child.field-0; non_const = c.new.result; lists = c.args.lists } in
    λ n. finds_fault c.args.lists c.args.scope.now c.args.overrides.now (contains nat_cmp c.args.references.now) (ordered c.args.assignments.now c.args.evaluation_order.now) first c.evaluate_constants.new.constants refl c.in_ok-child.ensures.0 c.in_ok-child.ensures.1 c.new.ensures.empty _ (c.in-Err.ensures.settles (λ e. n (cc)))
