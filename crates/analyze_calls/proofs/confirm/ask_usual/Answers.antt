use Rattle.std.proofs.Common.{rules, ◌≡◌, ◌∙◌, None, Some}
use Rattle.std.specs.String.{string_bytes}
use Rattle.std.proofs.lemmas.Result.{err_from_is_err_and}
use Rattle.just_text.specs.Tokens.{lexeme}
use Rattle.laws_evaluation.proofs.Bodies.Performing.{performs_memory}
use Rattle.analyze_calls.specs.Confirming.{confirming, usual_prompt}
use Rattle.analyze_calls.proofs.confirm.ask_usual.Goals as goal

pub returns-in_err-text-clause-performs : goal.returns-in_err-text-clause-performs
returns-in_err-text-clause-performs g c = λ reading stage.
    let p = err_from_is_err_and c.from_residual.result c.from_residual.ensures.1 in
    rw (p.1, p.2) (performs_memory reading (confirming stage (lexeme c.args.recipe.token) (Some None)) c.args.host.now)

pub returns-clause-performs : goal.returns-clause-performs
returns-clause-performs g c = λ reading stage.
    let is : c.as_str.result.now ≡ usual_prompt (lexeme c.args.recipe.token) = search rules in
    rw is at (c.ask.ensures.performs reading)
