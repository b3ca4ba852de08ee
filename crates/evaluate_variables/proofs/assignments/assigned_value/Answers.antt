use Rattle.std.proofs.Common.{rules}
use Rattle.std.proofs.lemmas.Result.{err_from_is_err_and}
use Rattle.meaning_dialogues.proofs.Dialogues.{begins_here, not_begun}
use Rattle.evaluate_variables.proofs.assignments.assigned_value.Goals as goal

pub returns-in_err-from_text-clause-evaluates : goal.returns-in_err-from_text-clause-evaluates
returns-in_err-from_text-clause-evaluates g c =
    let p = err_from_is_err_and c.from_residual.result c.from_residual.ensures.1 in
    rw (p.1, p.2) (not_begun _ _)

pub returns-in-Some-clause-evaluates : goal.returns-in-Some-clause-evaluates
returns-in-Some-clause-evaluates g c = record { goes = λ n. search rules; begins = begins_here _ _ _ }

pub returns-clause-evaluates : goal.returns-clause-evaluates
returns-clause-evaluates g c = rw (← c.get.ensures.value, c.in_default.is, ← c.opening.ensures.stage, ← c.opening.ensures.reading) c.evaluate_value.ensures.evaluates
