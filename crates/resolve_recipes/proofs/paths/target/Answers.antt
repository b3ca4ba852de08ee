-- From a recipe, and from nothing, no name leads on.
use Rattle.std.proofs.Common.{ap, sym, drop, inl, inr, ◌∙◌}
use Rattle.resolve_recipes.specs.Leading.{leads_from}
use Rattle.resolve_recipes.proofs.Named.{nothing_leads, recipe_stops}
use Rattle.resolve_recipes.proofs.paths.target.Goals as goal

pub returns-in-Recipe : goal.returns-in-Recipe
returns-in-Recipe c all = sym (elim c.in-Recipe.is [
  | inl recipe ↦ ap (λ t. leads_from c.args.compilation.now t (drop c.loop-name.name-index c.args.names.now)) recipe.2 ∙ recipe_stops c.args.compilation.now recipe.0 recipe.1 c.args.names.now c.loop-name.name-index c.loop-name-test.true
  | inr nothing ↦ ap (λ t. leads_from c.args.compilation.now t (drop c.loop-name.name-index c.args.names.now)) nothing ∙ nothing_leads c.args.compilation.now (drop c.loop-name.name-index c.args.names.now)
]) ∙ c.loop-name.invariant all
