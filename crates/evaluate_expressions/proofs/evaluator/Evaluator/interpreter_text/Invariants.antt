-- What was asked so far, and what the rest gives.
use Rattle.std.proofs.Common.{◌+◌, ◌∷◌, []}
use Rattle.just_host.specs.Kinds.{AsksQuestions}
use Rattle.meaning_dialogues.proofs.Rows.{Lists}
use Rattle.evaluate_expressions.specs.Situations.{stage_at, reading_at}
use Rattle.evaluate_expressions.proofs.InterpreterWords.{all, rest}
use Rattle.evaluate_expressions.proofs.evaluator.Evaluator.interpreter_text.Given as goal

abbrev pub invariant-loop-argument : goal.invariant-loop-argument
invariant-loop-argument g l =
    let reading = reading_at l.self in
    let es = l.interpreter.command ∷ l.interpreter.arguments.items in
    record {
      asks : AsksQuestions g.H.Host.goes l.fn.host l.host;
      lists : Lists reading (all reading (stage_at l.self) es [] []) (rest reading (stage_at l.self) es [] [] (l.argument-index + 1)) l.fn.host.entries l.host.entries l.words;
    }
