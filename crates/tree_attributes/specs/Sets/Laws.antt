-- What the order of attributes comes to.
use Rattle.std.specs.Prelude.{◌≡◌, List, map}
use Rattle.std.specs.List.Sorted.{IsPermutation, IsSorted, IsStable}
use Rattle.tree_attributes.specs.Attributes.{AttributeShape}
use Rattle.tree_attributes.specs.declared.attribute_item.AttributeItem.{AttributeItem}
use Rattle.tree_attributes.specs.Sets.Order.{attribute_cmp, in_order, item_shape, items_in_order}

-- the attributes in order are those that were given
abbrev pub NoneIsLost : Type 0
NoneIsLost = (attributes : List AttributeShape) → IsPermutation attributes (in_order attributes)

-- none comes before the one in front of it, by name and then by printed arguments
abbrev pub TheyStandInOrder : Type 0
TheyStandInOrder = (attributes : List AttributeShape) → IsSorted attribute_cmp (in_order attributes)

-- those with one name and the same printed arguments stand as they were given
abbrev pub EqualOnesStay : Type 0
EqualOnesStay = (attributes : List AttributeShape) → IsStable attribute_cmp attributes (in_order attributes)

-- sorting twice is once
abbrev pub SortingTwiceIsOnce : Type 0
SortingTwiceIsOnce = (attributes : List AttributeShape) → in_order (in_order attributes) ≡ in_order attributes

-- where the attributes are written doesn't count
abbrev pub PlacesDoNotCount : Type 0
PlacesDoNotCount = (items : List AttributeItem) → map item_shape (items_in_order items) ≡ in_order (map item_shape items)
