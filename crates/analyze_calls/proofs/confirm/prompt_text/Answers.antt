use Rattle.std.proofs.lemmas.Result.{err_from_is_err_and}
use Rattle.evaluate_expressions.specs.Situations.{reading_at, stage_at}
use Rattle.justfile_evaluator.proofs.Silence.{evaluation_told}
use Rattle.analyze_calls.proofs.Asking.{prompt_given, prompt_memory, prompt_stopped}
use Rattle.analyze_calls.proofs.confirm.prompt_text.Goals as goal

pub returns-in_err-value-clause-performs : goal.returns-in_err-value-clause-performs
returns-in_err-value-clause-performs g c = λ recipe.
    let p = err_from_is_err_and c.from_residual.result c.from_residual.ensures.1 in
    rw (p.1, p.2) (prompt_stopped (reading_at c.args.evaluator.now) (stage_at c.args.evaluator.now) recipe c.args.prompt.now c.args.host.now c.evaluate_value.new.host _ c.in_err-value.ensures.evaluates)

pub returns-in_err-join-clause-performs : goal.returns-in_err-join-clause-performs
returns-in_err-join-clause-performs g c = λ recipe.
    let p = err_from_is_err_and c.from_residual-in_err-join.result c.from_residual-in_err-join.ensures.1 in
    rw (p.1, p.2) (prompt_memory (reading_at c.args.evaluator.now) (stage_at c.args.evaluator.now) recipe c.args.prompt.now c.args.host.now c.evaluate_value.new.host _ c.in_ok-value.ensures.evaluates)

pub returns-clause-performs : goal.returns-clause-performs
returns-clause-performs g c = λ recipe.
    prompt_given (reading_at c.args.evaluator.now) (stage_at c.args.evaluator.now) recipe c.args.prompt.now c.args.host.now c.evaluate_value.new.host _ _ c.in_ok-value.ensures.evaluates c.in_ok-join.ensures

pub returns-in_err-value-clause-told : goal.returns-in_err-value-clause-told
returns-in_err-value-clause-told g c =
    let p = err_from_is_err_and c.from_residual.result c.from_residual.ensures.1 in
    rw p.1 (evaluation_told _ _ _ p.2)
