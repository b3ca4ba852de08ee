use Rattle.meaning_dialogues.specs.Terms.{term_of}
use Rattle.evaluate_variables.proofs.Settling.{value_settles}
use Rattle.evaluate_variables.proofs.const_evaluator.ConstEvaluator.evaluate_value_const.Goals as goal

pub returns : goal.returns
returns c = value_settles c.evaluator.ensures.reading c.evaluator.ensures.stage (term_of c.args.expression.now) c.evaluate_value.ensures.evaluates
