-- A constant refuses it; in a dry run it stands for itself; else it is asked.
use Rattle.std.proofs.Common.{rules, ◌≡◌, Err, ap}
use Rattle.std.proofs.lemmas.Result.{err_from_is_err_and}
use Rattle.just_text.specs.Tokens.{lexeme}
use Rattle.meaning_dialogues.proofs.Dialogues.{ends, not_begun}
use Rattle.evaluate_expressions.proofs.Commands.{command_begins, command_dry, command_runs}
use Rattle.evaluate_expressions.proofs.evaluator.Evaluator.backtick.Goals as goal

pub returns-in_default-clause-evaluates : goal.returns-in_default-clause-evaluates
returns-in_default-clause-evaluates g c = rw c.in_default.is (ends _ (λ n. ap Err (c.not_const.ensures (λ e. n (ap Err e)))))

pub returns-in_err-text-clause-evaluates : goal.returns-in_err-text-clause-evaluates
returns-in_err-text-clause-evaluates g c =
    let p = err_from_is_err_and c.from_residual.result c.from_residual.ensures.1 in
    rw (p.1, p.2) (not_begun _ _)

pub returns-in_err-from_string-clause-evaluates : goal.returns-in_err-from_string-clause-evaluates
returns-in_err-from_string-clause-evaluates g c =
    let p = err_from_is_err_and c.from_residual-in_err-from_string.result c.from_residual-in_err-from_string.ensures.1 in
    rw (p.1, p.2) (not_begun _ _)

pub returns-then-context-clause-evaluates : goal.returns-then-context-clause-evaluates
returns-then-context-clause-evaluates g c =
    rw c.in-Run.is (command_dry c.in-Run.context c.args.self.now c.args.contents.now (lexeme c.args.token.now) c.if-context.true (λ n. search rules))

pub returns-in_err-output-clause-evaluates : goal.returns-in_err-output-clause-evaluates
returns-in_err-output-clause-evaluates g c =
    let same : c.as_str.result.now ≡ c.args.contents.now = search rules in
    let p = err_from_is_err_and c.from_residual-in_err-output.result c.from_residual-in_err-output.ensures.1 in
    rw (p.1, p.2, c.in-Run.is) (command_begins c.in-Run.context c.args.self.now c.args.contents.now (lexeme c.args.token.now) c.as_str.result.now same c.if-context.false c.in_err-output.ensures.begun)

pub returns-clause-evaluates : goal.returns-clause-evaluates
returns-clause-evaluates g c =
    let same : c.as_str.result.now ≡ c.args.contents.now = search rules in
    rw c.in-Run.is (command_runs c.in-Run.context c.args.self.now c.args.contents.now (lexeme c.args.token.now) c.as_str.result.now same c.if-context.false c.in_ok-output.ensures.answered c.output_value.ensures)
