-- An item that is there breaks what is named.
use Rattle.std.proofs.Common.{sym, ap, ◌∙◌}
use Rattle.tree_items.specs.Files.{item_shape}
use Rattle.meaning_rules.specs.Worlds.Sources.{is_enabled}
use Rattle.just_modules.specs.ItemRules.{there}
use Rattle.just_modules.proofs.Outcomes.{err_gives}
use Rattle.just_modules.proofs.rules.check_item.Goals as goal

pub returns-else-not-is_enabled-clause-broken : goal.returns-else-not-is_enabled-clause-broken
returns-else-not-is_enabled-clause-broken c =
    err_gives c.check_enabled.result c.check_enabled.ensures.broken (λ e named w is.
    let t = named w in
    (t.0, t.1, there (ap (λ os. is_enabled os (item_shape c.args.item.now)) is ∙ sym c.is_enabled.ensures ∙ c.if-not-is_enabled.false) t.2))
