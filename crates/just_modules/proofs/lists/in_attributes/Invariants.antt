-- What is left has the same features as all.
use Rattle.std.proofs.Common.{◌≡◌}
use Rattle.std.specs.List.{flat_map}
use Rattle.std.specs.Slice.Iter.{iter_rest}
use Rattle.tree_attributes.specs.Sets.Sets.{items_of}
use Rattle.just_modules.specs.Lists.{in_attribute_item}
use Rattle.just_modules.proofs.lists.in_attributes.Given as goal

abbrev pub invariant-loop-item : goal.invariant-loop-item
invariant-loop-item l = flat_map in_attribute_item (items_of l.fn.attributes) ≡ flat_map in_attribute_item (iter_rest l.item-iterator)
