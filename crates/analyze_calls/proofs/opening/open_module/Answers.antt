-- Its pairs are not told, it opens, or a variable has no value.
use Rattle.std.proofs.lemmas.Result.{err_from_is_err_and}
use Rattle.analyze_calls.proofs.Beginnings.{filling_begins, told_begins}
use Rattle.analyze_calls.proofs.Openings.{ended_untold, module_opened, module_ended}
use Rattle.analyze_calls.proofs.opening.open_module.Goals as goal

pub returns-in_err-dotenv-clause-opens : goal.returns-in_err-dotenv-clause-opens
returns-in_err-dotenv-clause-opens g c =
    let p = err_from_is_err_and c.from_residual.result c.from_residual.ensures.1 in
    rw (p.1, p.2) (ended_untold c.args.opening.now c.args.place c.args.module.now c.args.host.now.entries c.args.host.now.entries c.dotenv_of.new.host.entries c.in_err-dotenv.field-0.0 c.in_err-dotenv.ensures.told)

pub returns-in-Ok-clause-opens : goal.returns-in-Ok-clause-opens
returns-in-Ok-clause-opens g c =
    module_opened c.args.opening.now c.args.place c.args.module.now c.args.host.now.entries c.dotenv_of.new.host.entries c.fill.new.host.entries _ c.in_ok-dotenv.ensures.told
    c.in_ok-scope.scope c.in_ok-scope.ensures.0 c.in_ok-scope.ensures.1 c.fill.new.scope c.fill.ensures.around c.in-Ok.ensures.fills

pub returns-clause-opens : goal.returns-clause-opens
returns-clause-opens g c =
    module_ended c.args.opening.now c.args.place c.args.module.now c.args.host.now.entries c.dotenv_of.new.host.entries c.fill.new.host.entries _ c.in_ok-dotenv.ensures.told
    c.in_ok-scope.scope c.in_ok-scope.ensures.0 c.in_ok-scope.ensures.1 c.in-Err.fault c.in-Err.ensures.fills

pub returns-in_err-dotenv-clause-begun : goal.returns-in_err-dotenv-clause-begun
returns-in_err-dotenv-clause-begun g c = told_begins c.args.opening.now c.args.place c.args.module.now c.args.host.now.entries c.args.host.now.entries c.dotenv_of.new.host.entries c.in_err-dotenv.ensures.begun

pub returns-in_err-scope-clause-begun : goal.returns-in_err-scope-clause-begun
returns-in_err-scope-clause-begun g c = told_begins c.args.opening.now c.args.place c.args.module.now c.args.host.now.entries c.args.host.now.entries c.dotenv_of.new.host.entries c.in_ok-dotenv.ensures.begun

pub returns-in-Ok-clause-begun : goal.returns-in-Ok-clause-begun
returns-in-Ok-clause-begun g c =
    filling_begins c.args.opening.now c.args.place c.args.module.now c.args.host.now.entries c.dotenv_of.new.host.entries c.fill.new.host.entries _ c.in_ok-dotenv.ensures.told
    c.in_ok-scope.scope c.in_ok-scope.ensures.0 c.in_ok-scope.ensures.1 c.in-Ok.ensures.begun

pub returns-clause-begun : goal.returns-clause-begun
returns-clause-begun g c =
    filling_begins c.args.opening.now c.args.place c.args.module.now c.args.host.now.entries c.dotenv_of.new.host.entries c.fill.new.host.entries _ c.in_ok-dotenv.ensures.told
    c.in_ok-scope.scope c.in_ok-scope.ensures.0 c.in_ok-scope.ensures.1 c.in-Err.ensures.begun
