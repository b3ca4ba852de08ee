-- The feature is named.
use Rattle.std.proofs.Common.{refl, sym}
use Rattle.tree_items.specs.Files.{item_shape}
use Rattle.meaning_rules.specs.Rules.{unstable_feature}
use Rattle.just_modules.specs.ItemRules.{unstable}
use Rattle.just_modules.proofs.Items.{used}
use Rattle.just_modules.proofs.rules.check_unstable.Goals as goal

pub returns-in-Some-clause-broken : goal.returns-in-Some-clause-broken
returns-in-Some-clause-broken c w = (unstable_feature c.in-Some.field-0.feature, refl, unstable c.if-truths.false (used (item_shape c.args.item.now) c.in-Some.field-0.feature (sym c.in-Some.ensures)))
