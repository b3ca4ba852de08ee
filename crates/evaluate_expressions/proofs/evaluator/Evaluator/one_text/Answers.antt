use Rattle.std.proofs.lemmas.Result.{err_from_is_err_and}
use Rattle.meaning_dialogues.proofs.Dialogues.{then_goes, then_stops, ends}
use Rattle.evaluate_expressions.proofs.evaluator.Evaluator.one_text.Goals as goal

pub returns-clause-evaluates : goal.returns-clause-evaluates
returns-clause-evaluates g c = then_goes _ _ c.in_ok-value.ensures.evaluates (ends _ c.only_text.ensures)

pub returns-in_err-value-clause-evaluates : goal.returns-in_err-value-clause-evaluates
returns-in_err-value-clause-evaluates g c =
    let p = err_from_is_err_and c.from_residual.result c.from_residual.ensures.1 in
    rw (p.1, p.2) (then_stops _ _ c.in_err-value.ensures.evaluates)
