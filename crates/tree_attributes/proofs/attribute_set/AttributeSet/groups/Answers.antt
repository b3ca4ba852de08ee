-- Each item adds its group, if it is one.
use Rattle.std.proofs.Common.{◌<◌, length, arith}
use Rattle.tree_attributes.proofs.Sets.Groups.{group_pushed, group_passed}
use Rattle.tree_attributes.proofs.attribute_set.AttributeSet.groups.Goals as goal
use Rattle.tree_attributes.proofs.attribute_set.AttributeSet.groups.Goals.{in-Some+in_ok-push-in-Some, in-None}

pub loop-item-preserved : goal.loop-item-preserved
loop-item-preserved c =
    let items = c.deref-item-items.result.now in
    let i = c.loop-item.item-index in
    let item = c.item-item.result in
    let lt : i < length items = omega arith in
    elim c.match-group.branch [
      | in-Some+in_ok-push-in-Some w ↦ rw (w.groups-is, w.in_ok-push-in-Some.ensures.items) (group_pushed items i item w.in-Some.group c.loop-item.groups.items lt c.item-item.is w.in-Some.ensures c.loop-item.invariant)
      | in-None w ↦ rw w.groups-is (group_passed items i item c.loop-item.groups.items lt c.item-item.is w.in-None.ensures c.loop-item.invariant)
    ]
