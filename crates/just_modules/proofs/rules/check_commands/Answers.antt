-- The lines of the body are those of the recipe.
use Rattle.std.proofs.Common.{sym, ap, ◌∙◌}
use Rattle.tree_attributes.specs.Sets.Sets.{shapes_in}
use Rattle.tree_items.specs.Recipes.{body_shape, recipe_shape}
use Rattle.meaning_rules.specs.Rules.{syntax}
use Rattle.just_modules.proofs.Outcomes.{ok_gives, err_gives}
use Rattle.just_modules.proofs.Recipes.{lines_are_clear, lines_break}
use Rattle.just_modules.proofs.rules.check_commands.Goals as goal

pub returns-clause-clear : goal.returns-clause-clear
returns-clause-clear c = ok_gives c.check_body.result c.check_body.ensures.clear (λ clear plain. lines_are_clear c.args.truths.now.guards (body_shape c.as_slice.result.now) (recipe_shape c.args.recipe.now) (ap body_shape c.as_slice.ensures.value) clear)

pub returns-clause-broken : goal.returns-clause-broken
returns-clause-broken c =
    let plain = sym c.is_script.ensures ∙ c.if-is_script.false in
    err_gives c.check_body.result c.check_body.ensures.broken (λ e (place, kind, names, b) w.
    (syntax kind, names, lines_break w c.args.truths.now (shapes_in c.args.recipe.now.attributes) (recipe_shape c.args.recipe.now) (body_shape c.as_slice.result.now) place kind plain (ap body_shape c.as_slice.ensures.value) b))
