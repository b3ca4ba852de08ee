use Rattle.std.proofs.Common.{refl}
use Rattle.evaluate_variables.specs.declared.const_evaluator.ConstEvaluator.{ConstEvaluator}
use Rattle.evaluate_variables.proofs.Settling.{keeps_none}
use Rattle.evaluate_variables.proofs.const_evaluator.ConstEvaluator.keep.Goals as goal

pub returns-in_ok-insert-in-None-clause-keeps : goal.returns-in_ok-insert-in-None-clause-keeps
returns-in_ok-insert-in-None-clause-keeps c =
    let old = c.args.self.now in
    let next : ConstEvaluator = record { scope = old.scope; non_const = c.insert.new.self; lists = old.lists } in
    rw c.in-None.is (keeps_none old next c.args.assignment.now.number c.in_ok-insert-in-None.ensures.updates.0 refl)
