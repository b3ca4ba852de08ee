use Rattle.std.proofs.Common.{rules, ap, Ok}
use Rattle.std.proofs.lemmas.Result.{err_from_is_err_and}
use Rattle.meaning_dialogues.proofs.Dialogues.{ends, not_begun}
use Rattle.justfile_evaluator.proofs.line.fragment_text.Goals as goal

pub returns-in_err-body_text-in-Text-clause-evaluates : goal.returns-in_err-body_text-in-Text-clause-evaluates
returns-in_err-body_text-in-Text-clause-evaluates g c =
    let p = err_from_is_err_and c.from_residual.result c.from_residual.ensures.1 in
    rw (p.1, p.2) (not_begun _ _)

pub returns-in_ok-body_text-in-Text-clause-evaluates : goal.returns-in_ok-body_text-in-Text-clause-evaluates
returns-in_ok-body_text-in-Text-clause-evaluates g c = rw c.in-Text.is (ends _ (λ n. search rules))

pub returns-in-Interpolation-clause-evaluates : goal.returns-in-Interpolation-clause-evaluates
returns-in-Interpolation-clause-evaluates g c = rw c.in-Interpolation.is c.evaluate_joined.ensures.evaluates
