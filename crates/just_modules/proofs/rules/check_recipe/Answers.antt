-- No line, no attribute and no two things break a rule.
use Rattle.tree_attributes.specs.Sets.Sets.{shapes_in}
use Rattle.tree_items.specs.Recipes.{recipe_shape}
use Rattle.just_modules.proofs.Outcomes.{both_give}
use Rattle.just_modules.proofs.Recipes.{recipe_is_clear}
use Rattle.just_modules.proofs.rules.check_recipe.Goals as goal

pub returns-in-Ok-clause-clear : goal.returns-in-Ok-clause-clear
returns-in-Ok-clause-clear c =
    both_give c.check_header.result c.check_header.ensures.cache c.check_header.ensures.clear (λ uncached apart w.
    recipe_is_clear w c.args.truths.now (shapes_in c.args.recipe.now.attributes) (recipe_shape c.args.recipe.now) c.in-Ok.ensures.clear uncached apart)
