-- A stable sort puts the items in order.
use Rattle.tree_attributes.proofs.Sets.InOrder.{sorted_items}
use Rattle.tree_attributes.proofs.attribute_set.AttributeSet.from_items.Goals as goal

pub returns : goal.returns
returns c = sorted_items _ _ c.in_ok-sort.ensures.sorted c.in_ok-sort.ensures.stable
