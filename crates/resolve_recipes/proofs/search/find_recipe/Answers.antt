-- The recipe of a row that has the name.
use Rattle.resolve_recipes.proofs.Named.{recipe_found}
use Rattle.resolve_recipes.proofs.search.find_recipe.Goals as goal

pub returns-in-Some : goal.returns-in-Some
returns-in-Some c = record { found = recipe_found c.args.compilation.now c.args.node.now _ c.args.name.now _ c.as_slice.ensures.value c.in-Some.ensures.found }

pub returns-in-None : goal.returns-in-None
returns-in-None c = record { found = recipe_found c.args.compilation.now c.args.node.now _ c.args.name.now _ c.as_slice.ensures.value c.in-None.ensures.found }
