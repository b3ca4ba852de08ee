-- The calls ran over the recipes and contexts.
use Rattle.std.proofs.Common.{refl}
use Rattle.run_tasks.specs.Performed.{runs_in}
use Rattle.run_tasks.proofs.Ending.{run_fits, run_refused}
use Rattle.run_tasks.proofs.opened.run.Goals as goal

pub returns-clause-performs : goal.returns-clause-performs
returns-clause-performs g c = λ e. runs_in (record { recipes = c.args.recipes; contexts = c.args.contexts }) refl refl (c.in_ok-run_calls.ensures.goes e)

pub returns-in_err-run_calls-clause-performs : goal.returns-in_err-run_calls-clause-performs
returns-in_err-run_calls-clause-performs g c =
    run_refused _ _ c.in_err-run_calls.field-0.0 _ c.from_residual.ensures
    (λ e suffices. runs_in (record { recipes = c.args.recipes; contexts = c.args.contexts }) refl refl (c.in_err-run_calls.ensures.goes e suffices))

pub returns-in_err-run_calls-clause-fits : goal.returns-in_err-run_calls-clause-fits
returns-in_err-run_calls-clause-fits g c = run_fits c.args.calls _ c.in_err-run_calls.field-0.0 c.from_residual.ensures

pub returns-clause-begun : goal.returns-clause-begun
returns-clause-begun g c = record { runner = record { recipes = c.args.recipes; contexts = c.args.contexts }; recipes_are = refl; contexts_are = refl; begins = c.in_ok-run_calls.ensures.begun }

pub returns-in_err-run_calls-clause-begun : goal.returns-in_err-run_calls-clause-begun
returns-in_err-run_calls-clause-begun g c = record { runner = record { recipes = c.args.recipes; contexts = c.args.contexts }; recipes_are = refl; contexts_are = refl; begins = c.in_err-run_calls.ensures.begun }
