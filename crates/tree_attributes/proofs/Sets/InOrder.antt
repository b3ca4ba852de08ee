-- Items of sets in order: what a sort gives, and that a second one changes nothing.
use Rattle.std.proofs.Common.{◌≡◌, List}
use Rattle.std.specs.Cmp.{IsStrictWeakOrder}
use Rattle.std.specs.Ordering.{on}
use Rattle.std.specs.List.Sorted.{IsSorted, IsStable}
use Rattle.std.proofs.lemmas.List.Sorted.{ranks_by}
use Rattle.tree_attributes.specs.declared.attribute_item.AttributeItem.{AttributeItem}
use Rattle.tree_attributes.specs.Sets.Order.{is_before, item_shape, item_cmp, item_total, items_in_order}
use Rattle.tree_attributes.proofs.Sets.Sorted.{sorted_from_sort, sorted_twice}

items_ranked : IsStrictWeakOrder (on item_shape is_before)
items_ranked = ranks_by item_total (λ item. item)

-- a stable sort of items gives them in order
pub sorted_items : (items sorted : List AttributeItem) → IsSorted item_cmp sorted → IsStable item_cmp items sorted → sorted ≡ items_in_order items
sorted_items items sorted up stable = sorted_from_sort (on item_shape is_before) items_ranked items sorted up stable

-- and they stay as they are
pub items_stay : (items : List AttributeItem) → items_in_order (items_in_order items) ≡ items_in_order items
items_stay items = sorted_twice (on item_shape is_before) items_ranked items
