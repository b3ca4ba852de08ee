-- The question is about the fact.
use Rattle.std.proofs.Common.{[], refl}
use Rattle.evaluate_builtins.specs.Builtins.{text_told}
use Rattle.evaluate_builtins.proofs.Asking.{may_be_asked_goes}
use Rattle.evaluate_builtins.proofs.Named.{question_goes}
use Rattle.evaluate_builtins.proofs.machine.fact_answer.Goals as goal

pub returns-clause-evaluates : goal.returns-clause-evaluates
returns-clause-evaluates g c name reading = question_goes name (text_told name []) c.in_ok-answer.ensures.answered (c.text_answer.ensures name)

pub returns-in_err-answer-clause-evaluates : goal.returns-in_err-answer-clause-evaluates
returns-in_err-answer-clause-evaluates g c name reading = may_be_asked_goes name _ _ c.from_residual.ensures refl c.in_err-answer.ensures.begun
