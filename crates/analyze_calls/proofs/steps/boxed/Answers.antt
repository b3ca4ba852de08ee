use Rattle.std.proofs.Common.{rules, ◌≡◌}
use Rattle.std.proofs.lemmas.Result.{err_from_is_err_and}
use Rattle.analyze_calls.proofs.Entering.{bound_memory}
use Rattle.analyze_calls.proofs.steps.boxed.Goals as goal

pub returns-in_err-new-clause-binds : goal.returns-in_err-new-clause-binds
returns-in_err-new-clause-binds g c =
    let p = err_from_is_err_and c.from_residual-in_err-new.result c.from_residual-in_err-new.ensures.1 in
    rw (p.1, p.2) (bound_memory c.args.placed.now.planned.now c.args.placed.now.context.now c.args.is_dependency c.args.groups.now c.args.host.now.entries c.enter_recipe.new.host.entries _ c.in_ok-entered.ensures.binds)
