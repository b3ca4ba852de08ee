-- What the recipe breaks, the item breaks.
use Rattle.std.proofs.Common.{sym, subst}
use Rattle.just_modules.specs.ItemRules.{BreaksIfRecipe}
use Rattle.meaning_rules.specs.Told.{IsNamedBy}
use Rattle.just_modules.proofs.Outcomes.{err_gives}
use Rattle.just_modules.proofs.rules.check_if_recipe.Goals as goal

pub returns-in-Recipe-clause-broken : goal.returns-in-Recipe-clause-broken
returns-in-Recipe-clause-broken c =
    err_gives c.check_recipe.result c.check_recipe.ensures.broken (λ e named w. subst (λ i. IsNamedBy (BreaksIfRecipe w c.args.truths.now i) e) (sym c.in-Recipe.is) (named w))
