-- The first two, or that there are none.
use Rattle.std.proofs.Common.{sym, ◌∙◌}
use Rattle.tree_attributes.specs.Sets.Sets.{shapes_in}
use Rattle.tree_items.specs.Recipes.{recipe_shape}
use Rattle.just_modules.proofs.Recipes.{none_exclude, folders_exclude, scripts_exclude, messages_exclude}
use Rattle.just_modules.proofs.rules.first_conflict.Goals as goal

pub returns-then-has_both-clause-found : goal.returns-then-has_both-clause-found
returns-then-has_both-clause-found c = folders_exclude (shapes_in c.args.recipe.now.attributes) (recipe_shape c.args.recipe.now) (sym c.has_both.ensures ∙ c.if-has_both.true)

pub returns-then-is_twice_script-clause-found : goal.returns-then-is_twice_script-clause-found
returns-then-is_twice_script-clause-found c = scripts_exclude (shapes_in c.args.recipe.now.attributes) (recipe_shape c.args.recipe.now) (sym c.is_twice_script.ensures ∙ c.if-is_twice_script.true)

pub returns-then-has_both-2-clause-found : goal.returns-then-has_both-2-clause-found
returns-then-has_both-2-clause-found c = messages_exclude (shapes_in c.args.recipe.now.attributes) (recipe_shape c.args.recipe.now) (sym c.has_both-2.ensures ∙ c.if-has_both-2.true)

pub returns-clause-none : goal.returns-clause-none
returns-clause-none c is = none_exclude (shapes_in c.args.recipe.now.attributes) (recipe_shape c.args.recipe.now) (sym c.has_both.ensures ∙ c.if-has_both.false) (sym c.is_twice_script.ensures ∙ c.if-is_twice_script.false) (sym c.has_both-2.ensures ∙ c.if-has_both-2.false)
