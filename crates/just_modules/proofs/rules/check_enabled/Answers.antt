-- Lists first, then what a recipe breaks.
use Rattle.meaning_rules.specs.Rules.{lists_needed}
use Rattle.just_modules.specs.ItemRules.{lists, recipe}
use Rattle.just_modules.proofs.Items.{enabled_is_clear}
use Rattle.just_modules.proofs.Outcomes.{ok_gives, err_gives}
use Rattle.just_modules.proofs.rules.check_enabled.Goals as goal

pub returns-in-Ok-clause-clear : goal.returns-in-Ok-clause-clear
returns-in-Ok-clause-clear c = ok_gives c.check_if_recipe.result c.check_if_recipe.ensures.clear (λ apart w. enabled_is_clear w c.args.truths.now c.args.item.now c.in-Ok.ensures.clear apart)

pub returns-in-Ok-clause-broken : goal.returns-in-Ok-clause-broken
returns-in-Ok-clause-broken c = err_gives c.check_if_recipe.result c.check_if_recipe.ensures.broken (λ e named w. let t = named w in (t.0, t.1, recipe t.2))

pub returns-in-Err-clause-broken : goal.returns-in-Err-clause-broken
returns-in-Err-clause-broken c w = let b = c.in-Err.ensures.broken in (lists_needed b.0, b.1, lists b.2 b.3)
