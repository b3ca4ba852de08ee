-- Attributes in their order are those that are written, and what holds of each written one holds of each in order.
use Rattle.std.proofs.Common.{◌≡◌, ℕ, zero, suc, Bool, List, [], ◌∷◌, map, Option, Some, None, refl, arith, inl, inr}
use Rattle.std.specs.List.{All, cons_option}
use Rattle.std.specs.Option.{option_map}
use Rattle.tree_attributes.specs.declared.attribute_item.AttributeItem.{AttributeItem}
use Rattle.tree_attributes.specs.Sets.Order.{in_order, is_before, item_shape, items_in_order, put, sorted}
use Rattle.tree_attributes.proofs.Sets.Sorted.{map_sorted}
use Rattle.parse_attributes.proofs.Adding.{all_first, all_others}
use Rattle.parse_attributes.proofs.Follow.{all_none, all_one}
use Rattle.parse_expressions.proofs.Taken.{test}

pub seen_given : {X Y : Type 0} (f : X → Y) (o : Option X) → map f (cons_option o []) ≡ cons_option (option_map f o) []
seen_given f None = refl
seen_given f (Some x) = refl

pub shapes_in_order : (items : List AttributeItem) → map item_shape (items_in_order items) ≡ in_order (map item_shape items)
shapes_in_order items = map_sorted item_shape is_before items

module _ {X : Type 0} (P : X → Type 0) (before : X → X → Bool) where
  with_first : (x : X) (xs : List X) → P x → All P xs → All P (x ∷ xs)
  with_first x xs one all zero d less = one
  with_first x xs one all (suc k) d less = all k d (omega arith)

  put_among : (x : X) (xs : List X) → P x → All P xs → All P (put before x xs)
  unfolding put
  put_among x [] one all = all_one P x one
  put_among x (y ∷ ys) one all =
      elim (test (before y x)) [
        | inl is ↦ rw is (with_first y (put before x ys) (all_first P y ys all) (put_among x ys one (all_others P y ys all)))
        | inr is ↦ rw is (with_first x (y ∷ ys) one all)
      ]

  pub all_sorted : (xs : List X) → All P xs → All P (sorted before xs)
  unfolding sorted
  all_sorted [] all = all_none P [] refl
  all_sorted (x ∷ xs) all = put_among x (sorted before xs) (all_first P x xs all) (all_sorted xs (all_others P x xs all))
