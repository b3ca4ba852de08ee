use Rattle.std.proofs.Common.{ap, Ok}
use Rattle.std.proofs.lemmas.Result.{err_from_is_err_and}
use Rattle.meaning_dialogues.proofs.Dialogues.{ends, not_begun, then_goes, then_stops}
use Rattle.meaning_dialogues.specs.Terms.{term_of}
use Rattle.evaluate_expressions.proofs.Known.{joined_known}
use Rattle.evaluate_expressions.proofs.Levels.{reads_joined, variable_term}
use Rattle.evaluate_expressions.proofs.evaluator.Evaluator.evaluate_joined.Goals as goal

pub returns-in-Variable-clause-evaluates : goal.returns-in-Variable-clause-evaluates
returns-in-Variable-clause-evaluates g c = rw (c.in-Variable.is, variable_term) (reads_joined _ _ c.variable_text.ensures)

pub returns-clause-evaluates : goal.returns-clause-evaluates
returns-clause-evaluates g c = then_goes _ _ c.in_ok-value.ensures.evaluates (ends _ (λ n. ap Ok c.in_ok-into_joined.ensures))

pub returns-in_err-value-clause-evaluates : goal.returns-in_err-value-clause-evaluates
returns-in_err-value-clause-evaluates g c =
    let p = err_from_is_err_and c.from_residual.result c.from_residual.ensures.1 in
    rw (p.1, p.2) (then_stops _ _ c.in_err-value.ensures.evaluates)

pub returns-in_err-into_joined-clause-evaluates : goal.returns-in_err-into_joined-clause-evaluates
returns-in_err-into_joined-clause-evaluates g c =
    let p = err_from_is_err_and c.from_residual-in_err-into_joined.result c.from_residual-in_err-into_joined.ensures.1 in
    rw (p.1, p.2) (then_goes _ _ c.in_ok-value.ensures.evaluates (not_begun _ _))

pub returns-in-Variable-clause-known : goal.returns-in-Variable-clause-known
returns-in-Variable-clause-known g c = λ reached bodies names. joined_known reached c.args.self.now bodies (term_of c.args.expression.now) _ _ _ names (returns-in-Variable-clause-evaluates g c)

pub returns-clause-known : goal.returns-clause-known
returns-clause-known g c = λ reached bodies names. joined_known reached c.args.self.now bodies (term_of c.args.expression.now) _ _ _ names (returns-clause-evaluates g c)

pub returns-in_err-value-clause-known : goal.returns-in_err-value-clause-known
returns-in_err-value-clause-known g c = λ reached bodies names. joined_known reached c.args.self.now bodies (term_of c.args.expression.now) _ _ _ names (returns-in_err-value-clause-evaluates g c)

pub returns-in_err-into_joined-clause-known : goal.returns-in_err-into_joined-clause-known
returns-in_err-into_joined-clause-known g c = λ reached bodies names. joined_known reached c.args.self.now bodies (term_of c.args.expression.now) _ _ _ names (returns-in_err-into_joined-clause-evaluates g c)
