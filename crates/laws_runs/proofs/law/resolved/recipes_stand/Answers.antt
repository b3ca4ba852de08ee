use Rattle.laws_runs.proofs.Resolved.Recipes.{recipes_stand}
use Rattle.laws_runs.proofs.law.resolved.recipes_stand.Goals as goal

pub returns : goal.returns
returns c = recipes_stand
