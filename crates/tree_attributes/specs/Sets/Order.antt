-- The order of attributes: by name in bytes, then by printed arguments in bytes, then by appearance.
use Rattle.std.specs.Prelude.{◌≡◌, ℕ, Bool, List, [], ◌∷◌, ◌==◌, if◌then◌else◌}
use Rattle.std.specs.declared.cmp.Ordering.{Ordering}
use Rattle.std.specs.Cmp.{IsTotalOrder, IsEquivalence}
use Rattle.std.specs.Cmp.Lexicographic.{slice_cmp, pointwise, texts_ties}
use Rattle.std.specs.Ordering.{nat_cmp, on, then_cmp, eq_of_both, is_lt, eq_by_cmp}
use Rattle.std.proofs.lemmas.Cmp.{on_total, then_total, nat_list_cmp_total, on_equiv, and_equiv, nat_list_eq_equiv}
use Rattle.tree_attributes.specs.Attributes.{AttributeShape, attribute_shape, kind_of, kind_name}
use Rattle.tree_attributes.specs.declared.attribute_item.AttributeItem.{AttributeItem}
use Rattle.tree_attributes.specs.Sets.Arguments.{arguments_text}
use Rattle.just_text.specs.Order.{both_tie}

-- texts byte by byte
abbrev pub text_cmp : List ℕ → List ℕ → Ordering
text_cmp = slice_cmp nat_cmp

abbrev pub text_eq : List ℕ → List ℕ → Bool
text_eq = pointwise (λ a b. a == b)

-- the name of an attribute
abbrev pub name_text : AttributeShape → List ℕ
name_text attribute = kind_name (kind_of attribute)

-- attributes by name, then by printed arguments
abbrev pub attribute_cmp : AttributeShape → AttributeShape → Ordering
attribute_cmp = then_cmp (on name_text text_cmp) (on arguments_text text_cmp)

-- attributes of one name with the same printed arguments
abbrev pub attribute_eq : AttributeShape → AttributeShape → Bool
attribute_eq = eq_of_both (on name_text text_eq) (on arguments_text text_eq)

-- an attribute comes before another
abbrev pub is_before : AttributeShape → AttributeShape → Bool
is_before a b = is_lt (attribute_cmp a b)

-- an element in front of the first that doesn't come before it
unfoldable pub put : {X : Type 0} → (X → X → Bool) → X → List X → List X
put before x [] = x ∷ []
put before x (y ∷ ys) = if before y x then y ∷ put before x ys else x ∷ y ∷ ys

-- a list in order: the first element is put into the others in order
unfoldable pub sorted : {X : Type 0} → (X → X → Bool) → List X → List X
sorted before [] = []
sorted before (x ∷ xs) = put before x (sorted before xs)

-- attributes in their order
abbrev pub in_order : List AttributeShape → List AttributeShape
in_order = sorted is_before

-- what an item of a set says, wherever it is written
abbrev pub item_shape : AttributeItem → AttributeShape
item_shape item = attribute_shape item.attribute

abbrev pub item_cmp : AttributeItem → AttributeItem → Ordering
item_cmp = on item_shape attribute_cmp

abbrev pub item_eq : AttributeItem → AttributeItem → Bool
item_eq = on item_shape attribute_eq

-- the items of a set in the order of their attributes
abbrev pub items_in_order : List AttributeItem → List AttributeItem
items_in_order = sorted (on item_shape is_before)

pub item_ties : (x y : AttributeItem) → item_eq x y ≡ eq_by_cmp item_cmp x y
item_ties x y = both_tie _ _ _ _ (texts_ties (name_text (item_shape x)) (name_text (item_shape y))) (texts_ties (arguments_text (item_shape x)) (arguments_text (item_shape y)))

pub attribute_total : IsTotalOrder attribute_cmp
attribute_total = then_total (on_total name_text nat_list_cmp_total) (on_total arguments_text nat_list_cmp_total)

pub item_total : IsTotalOrder item_cmp
item_total = on_total item_shape attribute_total

pub item_equiv : IsEquivalence item_eq
item_equiv = on_equiv item_shape (and_equiv (on_equiv name_text nat_list_eq_equiv) (on_equiv arguments_text nat_list_eq_equiv))
