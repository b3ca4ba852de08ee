use Rattle.std.proofs.Common.{rules, ◌≡◌, Some, true}
use Rattle.std.specs.String.{string_bytes}
use Rattle.std.proofs.lemmas.Result.{err_from_is_err_and}
use Rattle.just_text.specs.Tokens.{lexeme}
use Rattle.evaluate_expressions.specs.Situations.{reading_at, stage_at}
use Rattle.laws_evaluation.proofs.Bodies.Performing.{stays_worked}
use Rattle.analyze_calls.proofs.Asking.{asked_then, asked_none}
use Rattle.analyze_calls.proofs.confirm.ask_written.Goals as goal

pub returns-in_err-text-clause-performs : goal.returns-in_err-text-clause-performs
returns-in_err-text-clause-performs g c =
    let p = err_from_is_err_and c.from_residual.result c.from_residual.ensures.1 in
    rw (p.1, p.2) (asked_none (reading_at c.args.evaluator.now) (stage_at c.args.evaluator.now) (lexeme c.args.recipe.token) (Some c.args.prompt.now) c.args.host.now c.prompt_text.new.host _ (c.in_err-text.ensures.performs (lexeme c.args.recipe.token)))

pub returns-clause-performs : goal.returns-clause-performs
returns-clause-performs g c =
    let is : c.as_str.result.now ≡ string_bytes c.in_ok-text.text = search rules in
    asked_then (reading_at c.args.evaluator.now) (stage_at c.args.evaluator.now) (lexeme c.args.recipe.token) (Some c.args.prompt.now) c.args.host.now c.prompt_text.new.host c.ask.new.host _ _ (c.in_ok-text.ensures.performs (lexeme c.args.recipe.token))
    (stays_worked g.H.Host.goes g.met.H.Host.nothing true c.prompt_text.new.host c.ask.new.host (λ kinds questions user work. c.ask.ensures.asks kinds questions user)) (rw is at (c.ask.ensures.performs (reading_at c.args.evaluator.now)))

pub returns-in_err-text-clause-told : goal.returns-in_err-text-clause-told
returns-in_err-text-clause-told g c =
    let p = err_from_is_err_and c.from_residual.result c.from_residual.ensures.1 in
    rw (p.1, p.2) c.in_err-text.ensures.told
