use Rattle.meaning_dialogues.specs.Faults.{text_place}
use Rattle.meaning_dialogues.specs.Terms.{term_of}
use Rattle.evaluate_expressions.proofs.Known.{text_known}
use Rattle.evaluate_expressions.proofs.evaluator.Evaluator.evaluate_string.Goals as goal

pub returns-clause-known : goal.returns-clause-known
returns-clause-known g c = λ reached bodies names. text_known reached c.args.self.now bodies (text_place c.args.context) (term_of c.args.expression.now) _ _ _ names c.one_text.ensures.evaluates
