use Rattle.std.specs.BTreeSet.{contains}
use Rattle.std.specs.Ordering.{nat_cmp}
use Rattle.evaluate_variables.specs.Opened.{ordered}
use Rattle.evaluate_variables.proofs.Known.{evaluator_known}
use Rattle.evaluate_variables.proofs.const_evaluator.evaluate_const_assignments.Goals as goal

pub returns-clause-known : goal.returns-clause-known
returns-clause-known c = λ known. evaluator_known c.args.lists c.args.scope.now c.args.overrides.now (contains nat_cmp c.args.references.now) (ordered c.args.assignments.now c.args.evaluation_order.now) _ c.find_constants.ensures known
