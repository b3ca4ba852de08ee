-- With what the attributes to come have, the list has what all have.
use Rattle.std.proofs.Common.{◌≡◌, ◌++◌}
use Rattle.std.specs.List.{flat_map}
use Rattle.std.specs.Slice.Iter.{iter_rest}
use Rattle.tree_attributes.specs.Sets.Sets.{items_of}
use Rattle.resolve_references.specs.ItemReferences.{references_of_attribute_item}
use Rattle.resolve_references.proofs.item_references.add_attributes.Given as goal

abbrev pub invariant-loop-item : goal.invariant-loop-item
invariant-loop-item l =
    l.references.list.items ++ flat_map references_of_attribute_item (iter_rest l.item-iterator) ≡ l.initial.references.list.items ++ flat_map references_of_attribute_item (items_of l.attributes)
