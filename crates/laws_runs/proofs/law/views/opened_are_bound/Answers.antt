use Rattle.laws_runs.proofs.Views.Opened.{opened_are_bound}
use Rattle.laws_runs.proofs.law.views.opened_are_bound.Goals as goal

pub returns : goal.returns
returns c = opened_are_bound c.args.overrides.now
