-- The items are those of the file.
use Rattle.std.proofs.Common.{◌≡◌, subst}
use Rattle.std.specs.Prelude.{OnOk, IfErr}
use Rattle.meaning_rules.specs.Worlds.Given.{World}
use Rattle.meaning_rules.specs.Rules.{Rule}
use Rattle.just_modules.specs.ItemRules.{BreaksItems}
use Rattle.meaning_rules.specs.Told.{IsNamedBy}
use Rattle.just_modules.proofs.rules.check_file.Goals as goal

pub returns-clause-clear : goal.returns-clause-clear
returns-clause-clear c = subst (λ items. OnOk c.check_items.result ((w : World) (rule : Rule) → w.os ≡ c.args.os → BreaksItems w c.args.truths.now items rule → ⊥)) c.as_slice.ensures.value c.check_items.ensures.clear

pub returns-clause-broken : goal.returns-clause-broken
returns-clause-broken c = subst (λ items. IfErr c.check_items.result (λ e. (w : World) → w.os ≡ c.args.os → IsNamedBy (BreaksItems w c.args.truths.now items) e)) c.as_slice.ensures.value c.check_items.ensures.broken
