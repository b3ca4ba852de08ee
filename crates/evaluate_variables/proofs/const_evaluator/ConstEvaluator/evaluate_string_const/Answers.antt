use Rattle.meaning_dialogues.specs.Faults.{text_place}
use Rattle.meaning_dialogues.specs.Terms.{term_of}
use Rattle.evaluate_variables.proofs.Settling.{text_settles}
use Rattle.evaluate_variables.proofs.const_evaluator.ConstEvaluator.evaluate_string_const.Goals as goal

pub returns : goal.returns
returns c = text_settles c.evaluator.ensures.reading c.evaluator.ensures.stage (text_place c.args.context) (term_of c.args.expression.now) c.evaluate_string.ensures.evaluates
