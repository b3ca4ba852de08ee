use Rattle.std.proofs.Common.{refl}
use Rattle.evaluate_variables.proofs.const_evaluator.ConstEvaluator.set_words.Goals as goal

pub returns : goal.returns
returns c = record { words = c.in_ok-evaluate_interpreter.field-0; settles = c.in_ok-evaluate_interpreter.ensures (λ e. cc); is = refl }
