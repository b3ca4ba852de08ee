use Rattle.evaluate_variables.proofs.Known.{recipe_known}
use Rattle.evaluate_variables.proofs.parameters.evaluate_parameters.Goals as goal

pub returns-clause-known : goal.returns-clause-known
returns-clause-known g c = λ may counts always counted none known. recipe_known c.args.context.now c.args.is_dependency c.args.recipe.now counts c.args.groups.now c.args.scope.now c.args.host.now.entries c.bind_recipe.new.host.entries c.bind_recipe.new.scope c.bind_recipe.result (c.bind_recipe.ensures.evaluates may counts always counted none) known
