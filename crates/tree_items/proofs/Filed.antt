-- The text of a file goes on item by item.
use Rattle.std.proofs.Common.{◌≡◌, ℕ, ◌+◌, ◌<◌, ◌≤◌, true, false, List, ◌∷◌, ◌++◌, length, get_or, drop, refl, ◌∙◌, append_assoc, append-nil, add-one, drop-cons}
use Rattle.std.proofs.lemmas.List.{drop_all}
use Rattle.tree_items.specs.declared.ast.Item.{Item}
use Rattle.tree_items.specs.Files.{item_shape, item_shapes, is_blank, text_behind, file_text_behind}

at_place : (items : List Item) (i : ℕ) (item : Item) → i < length items → item ≡ get_or items i item → drop i items ≡ item ∷ drop (i + 1) items
at_place items i item lt is = rw (add-one, drop-cons items i item lt, ← is) refl

-- a blank line waits
pub blank_waits : (indentation : List ℕ) (items : List Item) (i blank : ℕ) (item : Item) (done all : List ℕ) → i < length items → item ≡ get_or items i item
    → is_blank (item_shape item) ≡ true → done ++ file_text_behind indentation blank (item_shapes (drop i items)) ≡ all
    → done ++ file_text_behind indentation (blank + 1) (item_shapes (drop (i + 1) items)) ≡ all
unfolding file_text_behind
blank_waits indentation items i blank item done all lt is empty more =
    let step = at_place items i item lt is in
    let told = rw step at more in
    rw empty at told

-- another item is written after those that wait
pub item_behind : (indentation : List ℕ) (items : List Item) (i blank : ℕ) (item : Item) (done all : List ℕ) → i < length items → item ≡ get_or items i item
    → is_blank (item_shape item) ≡ false → done ++ file_text_behind indentation blank (item_shapes (drop i items)) ≡ all
    → (done ++ text_behind indentation blank (item_shape item)) ++ file_text_behind indentation 0 (item_shapes (drop (i + 1) items)) ≡ all
unfolding file_text_behind
item_behind indentation items i blank item done all lt is full more =
    let step = at_place items i item lt is in
    let told = rw step at more in
    let next = rw full at told in
    append_assoc done (text_behind indentation blank (item_shape item)) (file_text_behind indentation 0 (item_shapes (drop (i + 1) items))) ∙ next

-- at the end all is written
pub file_end : (indentation : List ℕ) (items : List Item) (i blank : ℕ) (done all : List ℕ) → length items ≤ i
    → done ++ file_text_behind indentation blank (item_shapes (drop i items)) ≡ all → done ≡ all
unfolding file_text_behind
file_end indentation items i blank done all le more =
    let told = rw (drop_all i items le) at more in
    rw append-nil at told
