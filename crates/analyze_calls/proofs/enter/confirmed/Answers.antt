use Rattle.std.proofs.Common.{rules, ◌≡◌, ◌∙◌, ap}
use Rattle.std.proofs.lemmas.Result.{err_from_is_err_and}
use Rattle.evaluate_expressions.specs.Situations.{reading_at, stage_at}
use Rattle.evaluate_variables.specs.Given.{stage_with}
use Rattle.laws_evaluation.proofs.Bodies.Performing.{stays_asked}
use Rattle.meaning_evaluation.specs.Parameters.Bindings.{run_reading}
use Rattle.justfile_evaluator.proofs.Silence.{evaluation_told}
use Rattle.analyze_calls.specs.Around.{own_reading, own_stage}
use Rattle.analyze_calls.specs.Entered.{entered_of}
use Rattle.analyze_calls.proofs.Around.{head_brings, head_refuses, head_stops}
use Rattle.analyze_calls.proofs.enter.confirmed.Goals as goal

pub returns-in_err-confirm_unless-clause-performs : goal.returns-in_err-confirm_unless-clause-performs
returns-in_err-confirm_unless-clause-performs g c = λ is.
    let planned = c.args.placed.now.planned.now in
    let context = c.args.placed.now.context.now in
    let flag = c.args.entered.now.is_dependency in
    let entered = entered_of c.args.entered.now in
    let p = err_from_is_err_and c.from_residual.result c.from_residual.ensures.1 in
    rw (p.1, p.2) (head_stops c.args.runner.now planned context.config.now (own_stage planned context flag entered) (stage_at c.evaluator-evaluator.result) (own_reading planned context flag entered) (reading_at c.evaluator-evaluator.result)
    (c.evaluator-evaluator.ensures.stage ∙ ap (stage_with context flag planned.recipe.now.name entered.env) is) (c.evaluator-evaluator.ensures.reading ∙ ap (λ here. run_reading here context.scope.now) is)
    c.args.host.now c.confirm_unless.new.host _ c.in_err-confirm_unless.ensures.performs)

pub returns-in_err-block_unless-clause-performs : goal.returns-in_err-block_unless-clause-performs
returns-in_err-block_unless-clause-performs g c = λ is.
    let planned = c.args.placed.now.planned.now in
    let context = c.args.placed.now.context.now in
    let flag = c.args.entered.now.is_dependency in
    let entered = entered_of c.args.entered.now in
    let p = err_from_is_err_and c.from_residual-in_err-block_unless.result c.from_residual-in_err-block_unless.ensures.1 in
    let same : c.as_slice-priors.result.now ≡ c.args.placed.now.planned.now.recipe.now.priors.items = search rules in
    rw (p.1, p.2) (head_refuses c.args.runner.now planned context.config.now (own_stage planned context flag entered) (stage_at c.evaluator-evaluator.result) (own_reading planned context flag entered) (reading_at c.evaluator-evaluator.result)
    (c.evaluator-evaluator.ensures.stage ∙ ap (stage_with context flag planned.recipe.now.name entered.env) is) (c.evaluator-evaluator.ensures.reading ∙ ap (λ here. run_reading here context.scope.now) is)
    c.args.host.now c.confirm_unless.new.host c.block_unless.new.host _ c.in_ok-confirm_unless.ensures.performs
    (stays_asked g.H.Host.goes g.met.H.Host.nothing c.confirm_unless.new.host c.block_unless.new.host c.in_err-block_unless.ensures.asks) (rw same at c.in_err-block_unless.ensures.evaluates))

pub returns-clause-performs : goal.returns-clause-performs
returns-clause-performs g c = λ is.
    let planned = c.args.placed.now.planned.now in
    let context = c.args.placed.now.context.now in
    let flag = c.args.entered.now.is_dependency in
    let entered = entered_of c.args.entered.now in
    let same : c.as_slice-priors.result.now ≡ c.args.placed.now.planned.now.recipe.now.priors.items = search rules in
    head_brings c.args.runner.now planned context.config.now (own_stage planned context flag entered) (stage_at c.evaluator-evaluator.result) (own_reading planned context flag entered) (reading_at c.evaluator-evaluator.result)
    (c.evaluator-evaluator.ensures.stage ∙ ap (stage_with context flag planned.recipe.now.name entered.env) is) (c.evaluator-evaluator.ensures.reading ∙ ap (λ here. run_reading here context.scope.now) is)
    c.args.host.now c.confirm_unless.new.host c.block_unless.new.host _ c.in_ok-confirm_unless.ensures.performs
    (stays_asked g.H.Host.goes g.met.H.Host.nothing c.confirm_unless.new.host c.block_unless.new.host c.in_ok-block_unless.ensures.asks) (rw same at c.in_ok-block_unless.ensures.evaluates)

pub returns-in_err-confirm_unless-clause-told : goal.returns-in_err-confirm_unless-clause-told
returns-in_err-confirm_unless-clause-told g c =
    let p = err_from_is_err_and c.from_residual.result c.from_residual.ensures.1 in
    rw (p.1, p.2) c.in_err-confirm_unless.ensures.told

pub returns-in_err-block_unless-clause-told : goal.returns-in_err-block_unless-clause-told
returns-in_err-block_unless-clause-told g c =
    let p = err_from_is_err_and c.from_residual-in_err-block_unless.result c.from_residual-in_err-block_unless.ensures.1 in
    rw p.1 (evaluation_told _ _ _ p.2)
