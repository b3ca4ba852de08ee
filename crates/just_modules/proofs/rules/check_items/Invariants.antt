-- Nothing is wrong with the items before.
use Rattle.just_modules.proofs.Items.{AreClearBelow}
use Rattle.just_modules.proofs.rules.check_items.Given as goal

abbrev pub invariant-loop-item : goal.invariant-loop-item
invariant-loop-item l = AreClearBelow l.truths l.os l.items l.item-index
