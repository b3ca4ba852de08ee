use Rattle.std.proofs.Common.{◌≡◌, sym, subst}
use Rattle.laws_evaluation.specs.Soundness.Endings.{NotInternal}
use Rattle.meaning_dialogues.specs.Terms.{term_of}
use Rattle.evaluate_expressions.proofs.Known.{value_known}
use Rattle.evaluate_expressions.proofs.evaluator.Evaluator.evaluate_value.Goals as goal

pub returns-clause-known : goal.returns-clause-known
returns-clause-known g c = λ reached bodies names. rw c.unboxed.ensures (value_known reached c.args.self.now bodies (term_of c.args.expression.now) _ _ _ names c.evaluate.ensures.evaluates)
