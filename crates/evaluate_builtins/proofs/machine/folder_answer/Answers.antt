-- The question is about the folder.
use Rattle.std.proofs.Common.{Err, ◌++◌, codes, refl}
use Rattle.meaning_dialogues.specs.Faults.{function_failed}
use Rattle.evaluate_builtins.specs.Builtins.{optional_told}
use Rattle.evaluate_builtins.proofs.Asking.{may_be_asked_goes}
use Rattle.evaluate_builtins.proofs.Named.{question_goes}
use Rattle.evaluate_builtins.proofs.machine.folder_answer.Goals as goal

pub returns-clause-evaluates : goal.returns-clause-evaluates
returns-clause-evaluates g c name reading =
    question_goes name (optional_told name (Err (function_failed name (c.args.words.now ++ codes " directory not found")))) c.in_ok-answer.ensures.answered (c.found_folder.ensures name)

pub returns-in_err-answer-clause-evaluates : goal.returns-in_err-answer-clause-evaluates
returns-in_err-answer-clause-evaluates g c name reading = may_be_asked_goes name _ _ c.from_residual.ensures refl c.in_err-answer.ensures.begun
