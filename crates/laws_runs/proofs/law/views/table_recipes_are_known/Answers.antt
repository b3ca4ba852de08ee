use Rattle.laws_runs.proofs.Views.Tables.{table_recipes_are_known}
use Rattle.laws_runs.proofs.law.views.table_recipes_are_known.Goals as goal

pub returns : goal.returns
returns c = table_recipes_are_known c.args.overrides.now
