use Rattle.laws_runs.proofs.Defined.Calls.{words_invoke_recipes}
use Rattle.laws_runs.proofs.law.defined.words_invoke_recipes.Goals as goal

pub returns : goal.returns
returns c = words_invoke_recipes
