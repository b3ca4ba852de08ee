use Rattle.std.proofs.Common.{rules, refl}
use Rattle.std.proofs.lemmas.Result.{err_from_is_err_and}
use Rattle.evaluate_expressions.specs.Interpreters.{words_of}
use Rattle.evaluate_expressions.proofs.WantOfMemory.{unless_memory}
use Rattle.justfile_evaluator.proofs.script.written_words.Goals as goal

pub returns-clause-evaluates : goal.returns-clause-evaluates
returns-clause-evaluates g c = (words_of c.in_ok-words.words, c.in_ok-words.ensures.evaluates, c.in_ok-interpreter_words.ensures)

pub returns-in_err-interpreter_words-clause-evaluates : goal.returns-in_err-interpreter_words-clause-evaluates
returns-in_err-interpreter_words-clause-evaluates g c =
    let p = err_from_is_err_and c.from_residual-in_err-interpreter_words.result c.from_residual-in_err-interpreter_words.ensures.1 in
    rw (p.1, p.2) (unless_memory c.in_ok-words.ensures.evaluates (λ n. absurd (n refl)))
