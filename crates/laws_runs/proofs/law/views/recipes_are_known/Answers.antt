use Rattle.laws_runs.proofs.Views.Views.{recipes_are_known}
use Rattle.laws_runs.proofs.law.views.recipes_are_known.Goals as goal

pub returns : goal.returns
returns c = recipes_are_known c.args.overrides.now
