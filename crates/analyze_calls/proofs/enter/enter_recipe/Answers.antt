use Rattle.std.proofs.lemmas.Result.{err_from_is_err_and}
use Rattle.analyze_calls.proofs.Entering.{is_inside, not_bound}
use Rattle.analyze_calls.proofs.enter.enter_recipe.Goals as goal

pub returns-in_err-scope-clause-binds : goal.returns-in_err-scope-clause-binds
returns-in_err-scope-clause-binds g c =
    let p = err_from_is_err_and c.from_residual.result c.from_residual.ensures.1 in
    rw (p.1, p.2) (not_bound c.args.placed.now.planned.now c.args.placed.now.context.now c.args.is_dependency c.args.groups.now c.args.host.now.entries)

pub returns-in-Err-clause-binds : goal.returns-in-Err-clause-binds
returns-in-Err-clause-binds g c = c.in-Err.ensures.binds (is_inside c.in_ok-scope.scope c.args.placed.now.context.now.scope.now c.in_ok-scope.ensures)
