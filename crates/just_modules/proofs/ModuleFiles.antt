-- Items of files, as what stands in a module.
use Rattle.std.proofs.Common.{◌≡◌, sym, ◌∙◌, ap, subst, true, false, not, ℕ, List, Some}
use Rattle.std.specs.Prelude.{Contains, slice_get}
use Rattle.std.proofs.lemmas.Option.{same_Some}
use Rattle.tree_items.specs.declared.ast.Item.{Item}
use Rattle.tree_items.specs.Files.{ItemShape, is_blank, item_shape, item_shapes}
use Rattle.modules_compilation.specs.declared.module_node.File.{File}
use Rattle.meaning_rules.specs.Worlds.Given.{Text, World, filled}
use Rattle.meaning_rules.specs.Worlds.Sources.{Has, IsFileOf}
use Rattle.meaning_rules.proofs.Worlds.Places.{contains_at, place_of}
use Rattle.meaning_rules.proofs.Worlds.Reading.{orders_have_reached}
use Rattle.laws_modules.specs.Files.Files.{AreFiles, IsSaid, keys_of}
use Rattle.just_modules.proofs.Contained.{mapped, mapped_from, passed, passed_from}

not_blank : (shape : ItemShape) → is_blank shape ≡ false → not (is_blank shape) ≡ true
not_blank shape e = ap not e

filled_has : (items : List Item) (item : Item) → Contains items item → is_blank (item_shape item) ≡ false → Contains (filled (item_shapes items)) (item_shape item)
unfolding filled
filled_has items item c e = passed (λ i. not (is_blank i)) (item_shapes items) (item_shape item) (mapped item_shape items item c) (not_blank (item_shape item) e)

filled_from : (items : List Item) (shape : ItemShape) → Contains (filled (item_shapes items)) shape → (item : Item) × Contains items item × (item_shape item ≡ shape)
unfolding filled
filled_from items shape c = mapped_from item_shape items shape (passed_from (λ i. not (is_blank i)) (item_shapes items) shape c)

-- an item of one of the files
pub record IsItemOf (files : List File) (key : Text) (shape : ItemShape) : Type 0 where
  pub file : File
  pub among : Contains files file
  pub key_is : file.key.now ≡ key
  pub item : Item
  pub there : Contains file.ast.items.items item
  pub is : item_shape item ≡ shape

module _ (w : World) (owner : ℕ) (own : Text) (files : List File) (are : AreFiles w owner own files) where
  pub is_file_of : (file : File) → Contains files file → IsFileOf w own file.key.now
  is_file_of file c = let p = place_of files file c in (are.each p.0 file p.1).of

  pub is_said : (file : File) → Contains files file → IsSaid w file
  is_said file c = let p = place_of files file c in (are.each p.0 file p.1).says

  -- an item of a file that is no blank line has a place there
  pub has_place : (file : File) → Contains files file → (item : Item) → Contains file.ast.items.items item → is_blank (item_shape item) ≡ false → (place : ℕ) × Has w file.key.now place (item_shape item)
  has_place file c item d e =
      let p = place_of (filled (item_shapes file.ast.items.items)) (item_shape item) (filled_has file.ast.items.items item d e) in
      (p.0, record { items = filled (item_shapes file.ast.items.items); says = is_said file c; at = p.1 })

  -- what stands in a file of the module is an item of one of the files
  pub is_item_of : (key : Text) (place : ℕ) (shape : ItemShape) → IsFileOf w own key → Has w key place shape → IsItemOf files key shape
  is_item_of key place shape of has =
      let m = mapped_from (λ (file : File). file.key.now) files key ((orders_have_reached w own (keys_of files) are.order key).1 of) in
      let says : w.said key ≡ Some (filled (item_shapes m.0.ast.items.items)) = ap w.said (sym m.2) ∙ is_said m.0 m.1 in
      let items : has.items ≡ filled (item_shapes m.0.ast.items.items) = same_Some has.items (filled (item_shapes m.0.ast.items.items)) (sym has.says ∙ says) in
      let i = filled_from m.0.ast.items.items shape (contains_at (filled (item_shapes m.0.ast.items.items)) place shape (subst (λ xs. slice_get xs place ≡ Some shape) items has.at)) in
      record { file = m.0; among = m.1; key_is = m.2; item = i.0; there = i.1; is = i.2 }
