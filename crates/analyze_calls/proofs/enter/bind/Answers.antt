use Rattle.std.proofs.Common.{of_calls, rules}
use Rattle.std.proofs.lemmas.Fn.{always_returns_same}
use Rattle.std.proofs.lemmas.Result.{err_from_is_err_and}
use Rattle.justfile_evaluator.proofs.Silence.{evaluation_told}
use Rattle.analyze_calls.specs.Binding.{may_have}
use Rattle.analyze_calls.proofs.Entering.{bound_given, bound_refused, grown_asked}
use Rattle.analyze_calls.proofs.enter.bind.Goals as goal

pub returns-in_err-evaluate_parameters-clause-binds : goal.returns-in_err-evaluate_parameters-clause-binds
returns-in_err-evaluate_parameters-clause-binds g c = λ is.
    let p = err_from_is_err_and c.from_residual.result c.from_residual.ensures.1 in
    rw p.1 (bound_refused c.args.placed.now.planned.now c.args.placed.now.context.now c.args.is_dependency c.args.groups.now c.args.host.now.entries c.evaluate_parameters.new.host.entries c.args.scope.now c.evaluate_parameters.new.scope _ _ is p.2
    (grown_asked g.H.Host.goes g.met.H.Host.nothing c.args.host.now c.evaluate_parameters.new.host c.in_err-evaluate_parameters.ensures.asks)
    (λ counts counted none. c.in_err-evaluate_parameters.ensures.evaluates may_have counts (always_returns_same _ _ _ (λ a r f k. search (rules, of_calls))) counted none))

pub returns-clause-binds : goal.returns-clause-binds
returns-clause-binds g c = λ is.
    bound_given c.args.placed.now.planned.now c.args.placed.now.context.now c.args.is_dependency c.args.groups.now c.args.host.now.entries c.evaluate_parameters.new.host.entries c.args.scope.now c.evaluate_parameters.new.scope c.in_ok-evaluate_parameters.field-0 is c.in_ok-evaluate_parameters.ensures.around
    (grown_asked g.H.Host.goes g.met.H.Host.nothing c.args.host.now c.evaluate_parameters.new.host c.in_ok-evaluate_parameters.ensures.asks) c.in_ok-evaluate_parameters.ensures.rows
    (λ counts counted none. c.in_ok-evaluate_parameters.ensures.evaluates may_have counts (always_returns_same _ _ _ (λ a r f k. search (rules, of_calls))) counted none)

pub returns-in_err-evaluate_parameters-clause-told : goal.returns-in_err-evaluate_parameters-clause-told
returns-in_err-evaluate_parameters-clause-told g c =
    let p = err_from_is_err_and c.from_residual.result c.from_residual.ensures.1 in
    rw p.1 (evaluation_told _ _ _ p.2)
