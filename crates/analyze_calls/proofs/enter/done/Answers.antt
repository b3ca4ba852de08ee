use Rattle.std.proofs.Common.{rules, ◌≡◌, ◌∙◌, ap}
use Rattle.std.proofs.lemmas.Result.{err_from_is_err_and}
use Rattle.evaluate_variables.specs.Given.{stage_with}
use Rattle.laws_evaluation.proofs.Bodies.Performing.{stays_asked}
use Rattle.meaning_evaluation.specs.Parameters.Bindings.{run_reading}
use Rattle.justfile_evaluator.proofs.Silence.{evaluation_told}
use Rattle.analyze_calls.specs.Entered.{entered_of}
use Rattle.analyze_calls.proofs.Around.{body_begins, body_brings, body_refuses, body_stops, tail_begins}
use Rattle.analyze_calls.proofs.Entering.{grown_worked}
use Rattle.analyze_calls.proofs.enter.done.Goals as goal

pub returns-in_err-run-clause-tails : goal.returns-in_err-run-clause-tails
returns-in_err-run-clause-tails g c = λ is.
    let planned = c.args.placed.now.planned.now in
    let context = c.args.placed.now.context.now in
    let flag = c.args.entered.now.is_dependency in
    let entered = entered_of c.args.entered.now in
    let p = err_from_is_err_and c.from_residual.result c.from_residual.ensures.1 in
    rw (p.1, p.2) (λ open_still sufficed. body_stops planned context flag entered c.evaluator-evaluator.result
    (c.evaluator-evaluator.ensures.stage ∙ ap (stage_with context flag planned.recipe.now.name entered.env) is) (c.evaluator-evaluator.ensures.reading ∙ ap (λ here. run_reading here context.scope.now) is)
    c.args.runner.now c.args.host.now c.run.new.host _ (grown_worked g.H.Host.goes g.met.H.Host.nothing context.config.now.dry_run c.args.host.now c.run.new.host c.in_err-run.ensures.asks) (c.in_err-run.ensures.performs is) open_still sufficed)

pub returns-in_err-block_unless-clause-tails : goal.returns-in_err-block_unless-clause-tails
returns-in_err-block_unless-clause-tails g c = λ is.
    let planned = c.args.placed.now.planned.now in
    let context = c.args.placed.now.context.now in
    let flag = c.args.entered.now.is_dependency in
    let entered = entered_of c.args.entered.now in
    let p = err_from_is_err_and c.from_residual-in_err-block_unless.result c.from_residual-in_err-block_unless.ensures.1 in
    let same : c.as_slice-subsequents.result.now ≡ c.args.placed.now.planned.now.recipe.now.subsequents.items = search rules in
    rw (p.1, p.2) (λ open_still sufficed. body_refuses planned context flag entered c.evaluator-evaluator.result
    (c.evaluator-evaluator.ensures.stage ∙ ap (stage_with context flag planned.recipe.now.name entered.env) is) (c.evaluator-evaluator.ensures.reading ∙ ap (λ here. run_reading here context.scope.now) is)
    c.args.runner.now c.args.host.now c.run.new.host c.block_unless.new.host _ (grown_worked g.H.Host.goes g.met.H.Host.nothing context.config.now.dry_run c.args.host.now c.run.new.host c.in_ok-run.ensures.asks) (c.in_ok-run.ensures.performs is)
    (stays_asked g.H.Host.goes g.met.H.Host.nothing c.run.new.host c.block_unless.new.host c.in_err-block_unless.ensures.asks) (rw same at c.in_err-block_unless.ensures.evaluates) open_still sufficed)

pub returns-clause-tails : goal.returns-clause-tails
returns-clause-tails g c = λ is open_still.
    let planned = c.args.placed.now.planned.now in
    let context = c.args.placed.now.context.now in
    let flag = c.args.entered.now.is_dependency in
    let entered = entered_of c.args.entered.now in
    let same : c.as_slice-subsequents.result.now ≡ c.args.placed.now.planned.now.recipe.now.subsequents.items = search rules in
    body_brings planned context flag entered c.evaluator-evaluator.result
    (c.evaluator-evaluator.ensures.stage ∙ ap (stage_with context flag planned.recipe.now.name entered.env) is) (c.evaluator-evaluator.ensures.reading ∙ ap (λ here. run_reading here context.scope.now) is)
    c.args.runner.now c.args.host.now c.run.new.host c.block_unless.new.host _ (grown_worked g.H.Host.goes g.met.H.Host.nothing context.config.now.dry_run c.args.host.now c.run.new.host c.in_ok-run.ensures.asks) (c.in_ok-run.ensures.performs is)
    (stays_asked g.H.Host.goes g.met.H.Host.nothing c.run.new.host c.block_unless.new.host c.in_ok-block_unless.ensures.asks) (rw same at c.in_ok-block_unless.ensures.evaluates) open_still

pub returns-in_err-block_unless-clause-asks : goal.returns-in_err-block_unless-clause-asks
returns-in_err-block_unless-clause-asks g c = λ kinds questions user work start asked. c.in_err-block_unless.ensures.asks kinds questions start (c.in_ok-run.ensures.asks kinds questions user work start asked)

pub returns-in_err-run-clause-said : goal.returns-in_err-run-clause-said
returns-in_err-run-clause-said g c =
    let p = err_from_is_err_and c.from_residual.result c.from_residual.ensures.1 in
    rw (p.1, p.2) c.in_err-run.ensures.said

pub returns-in_err-block_unless-clause-said : goal.returns-in_err-block_unless-clause-said
returns-in_err-block_unless-clause-said g c =
    let p = err_from_is_err_and c.from_residual-in_err-block_unless.result c.from_residual-in_err-block_unless.ensures.1 in
    rw p.1 (evaluation_told _ _ _ p.2)

pub returns-in_err-run-clause-begun : goal.returns-in_err-run-clause-begun
returns-in_err-run-clause-begun g c = λ is.
    let planned = c.args.placed.now.planned.now in
    let context = c.args.placed.now.context.now in
    let flag = c.args.entered.now.is_dependency in
    let entered = entered_of c.args.entered.now in
    body_begins planned context flag entered c.evaluator-evaluator.result
    (c.evaluator-evaluator.ensures.stage ∙ ap (stage_with context flag planned.recipe.now.name entered.env) is) (c.evaluator-evaluator.ensures.reading ∙ ap (λ here. run_reading here context.scope.now) is)
    c.args.runner.now c.args.host.now c.run.new.host _ (grown_worked g.H.Host.goes g.met.H.Host.nothing context.config.now.dry_run c.args.host.now c.run.new.host c.in_err-run.ensures.asks) (c.in_err-run.ensures.performs is)

pub returns-in_err-block_unless-clause-begun : goal.returns-in_err-block_unless-clause-begun
returns-in_err-block_unless-clause-begun g c = λ is.
    let planned = c.args.placed.now.planned.now in
    let context = c.args.placed.now.context.now in
    let flag = c.args.entered.now.is_dependency in
    let entered = entered_of c.args.entered.now in
    let same : c.as_slice-subsequents.result.now ≡ c.args.placed.now.planned.now.recipe.now.subsequents.items = search rules in
    tail_begins planned context flag entered c.evaluator-evaluator.result
    (c.evaluator-evaluator.ensures.stage ∙ ap (stage_with context flag planned.recipe.now.name entered.env) is) (c.evaluator-evaluator.ensures.reading ∙ ap (λ here. run_reading here context.scope.now) is)
    c.args.runner.now c.args.host.now c.run.new.host c.block_unless.new.host _ (grown_worked g.H.Host.goes g.met.H.Host.nothing context.config.now.dry_run c.args.host.now c.run.new.host c.in_ok-run.ensures.asks) (c.in_ok-run.ensures.performs is)
    (stays_asked g.H.Host.goes g.met.H.Host.nothing c.run.new.host c.block_unless.new.host c.in_err-block_unless.ensures.asks) (rw same at c.in_err-block_unless.ensures.evaluates)

pub returns-clause-begun : goal.returns-clause-begun
returns-clause-begun g c = λ is.
    let planned = c.args.placed.now.planned.now in
    let context = c.args.placed.now.context.now in
    let flag = c.args.entered.now.is_dependency in
    let entered = entered_of c.args.entered.now in
    let same : c.as_slice-subsequents.result.now ≡ c.args.placed.now.planned.now.recipe.now.subsequents.items = search rules in
    tail_begins planned context flag entered c.evaluator-evaluator.result
    (c.evaluator-evaluator.ensures.stage ∙ ap (stage_with context flag planned.recipe.now.name entered.env) is) (c.evaluator-evaluator.ensures.reading ∙ ap (λ here. run_reading here context.scope.now) is)
    c.args.runner.now c.args.host.now c.run.new.host c.block_unless.new.host _ (grown_worked g.H.Host.goes g.met.H.Host.nothing context.config.now.dry_run c.args.host.now c.run.new.host c.in_ok-run.ensures.asks) (c.in_ok-run.ensures.performs is)
    (stays_asked g.H.Host.goes g.met.H.Host.nothing c.run.new.host c.block_unless.new.host c.in_ok-block_unless.ensures.asks) (rw same at c.in_ok-block_unless.ensures.evaluates)
