-- The groups so far are those of the items so far.
use Rattle.std.proofs.Common.{◌≡◌, map, take}
use Rattle.tree_attributes.specs.Sets.Sets.{groups_of}
use Rattle.tree_attributes.proofs.attribute_set.AttributeSet.groups.Given as goal

abbrev pub invariant-loop-item : goal.invariant-loop-item
invariant-loop-item l = map (λ group. group.now) l.groups.items ≡ groups_of (take l.item-index l.item-items)
