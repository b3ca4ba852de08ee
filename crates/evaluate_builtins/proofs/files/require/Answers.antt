-- The question is about the program.
use Rattle.std.proofs.Common.{Err, ◌++◌, codes}
use Rattle.evaluate_context.specs.Surroundings.{surroundings_of}
use Rattle.meaning_dialogues.specs.Evaluation.{ticked}
use Rattle.meaning_dialogues.specs.Faults.{function_failed}
use Rattle.evaluate_builtins.proofs.Named.{program_goes}
use Rattle.evaluate_builtins.specs.Builtins.{program_dialogue}
use Rattle.evaluate_builtins.proofs.Asking.{may_be_asked_goes, not_asked_goes}
use Rattle.evaluate_builtins.proofs.files.require.Goals as goal

pub returns-clause-evaluates : goal.returns-clause-evaluates
returns-clause-evaluates g c name reading =
    program_goes name c.args.program.now (surroundings_of c.args.context.now) (Err (function_failed name (codes "could not find executable " ++ ticked c.args.program.now)))
    c.in_ok-question.ensures c.in_ok-answer.ensures.answered (c.required_program.ensures name)

pub returns-in_err-question-clause-evaluates : goal.returns-in_err-question-clause-evaluates
returns-in_err-question-clause-evaluates g c name reading = not_asked_goes name (program_dialogue name (surroundings_of c.args.context.now) c.args.program.now (Err (function_failed name (codes "could not find executable " ++ ticked c.args.program.now)))) c.args.host.now.entries _ c.from_residual.ensures

pub returns-in_err-answer-clause-evaluates : goal.returns-in_err-answer-clause-evaluates
returns-in_err-answer-clause-evaluates g c name reading = may_be_asked_goes name _ _ c.from_residual-in_err-answer.ensures c.in_ok-question.ensures c.in_err-answer.ensures.begun
