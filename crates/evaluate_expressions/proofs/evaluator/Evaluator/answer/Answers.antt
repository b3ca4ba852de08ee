use Rattle.std.proofs.Common.{Err, ap}
use Rattle.meaning_dialogues.proofs.Dialogues.{ends}
use Rattle.evaluate_expressions.proofs.WantOfMemory.{unless_memory}
use Rattle.evaluate_expressions.proofs.evaluator.Evaluator.answer.Goals as goal

pub returns-clause-evaluates : goal.returns-clause-evaluates
returns-clause-evaluates g c = rw c.in-Run.is (unless_memory (c.call_builtin.ensures.evaluates _) c.boxed.ensures)

pub returns-in_default-clause-evaluates : goal.returns-in_default-clause-evaluates
returns-in_default-clause-evaluates g c = rw c.in_default.is (ends _ (λ n. ap Err (c.call_in_constant.ensures (λ e. n (ap Err e)))))
