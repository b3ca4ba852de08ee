use Rattle.std.proofs.Common.{refl}
use Rattle.analyze_calls.specs.Around.{nothing}
use Rattle.analyze_calls.proofs.Entering.{is_inside}
use Rattle.analyze_calls.proofs.enter.end.Goals as goal

pub returns-clause-tails : goal.returns-clause-tails
returns-clause-tails g c = c.done.ensures.tails (is_inside c.in_ok-scope.scope c.args.entered.now.scope c.in_ok-scope.ensures)

pub returns-in_err-scope-clause-begun : goal.returns-in_err-scope-clause-begun
returns-in_err-scope-clause-begun g c = nothing refl

pub returns-clause-begun : goal.returns-clause-begun
returns-clause-begun g c = c.done.ensures.begun (is_inside c.in_ok-scope.scope c.args.entered.now.scope c.in_ok-scope.ensures)
