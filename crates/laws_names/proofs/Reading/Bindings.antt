-- The numbers of bindings: each stands in one item, and none is a constant's.
use Rattle.std.proofs.Common.{◌≡◌, refl, sym, ◌∙◌, ap, subst, List, [], ◌∷◌, take, drop, length, Option, Some, None, ℕ, zero, suc, ◌≤◌, ◌<◌, ◌-◌, arith}
use Rattle.std.specs.Prelude.{slice_get, Contains}
use Rattle.std.specs.List.{flat_map}
use Rattle.std.specs.List.Sorted.{IsStrictlySortedBy}
use Rattle.std.specs.Ordering.{nat_cmp}
use Rattle.std.specs.declared.cmp.Ordering.TheVariants.{Less}
use Rattle.std.proofs.lemmas.Cmp.{nat_cmp_total, tied_itself}
use Rattle.std.proofs.lemmas.List.Elements.{All-contains}
use Rattle.std.proofs.lemmas.List.Folds.{flat_map-map}
use Rattle.std.proofs.lemmas.Option.{none-some, same_Some}
use Rattle.just_value.specs.Constants.{constant_rows}
use Rattle.tree_items.specs.declared.ast.Item.{Item}
use Rattle.parse_items.specs.Numbered.{binding_numbers}
use Rattle.parse_attributed_items.specs.Held.{IsOwnItem}
use Rattle.justfile_syntax.specs.Numbered.{bindings_in}
use Rattle.modules_compilation.specs.Places.{item_at, items_of}
use Rattle.modules_compilation.specs.declared.compilation.Compilation.{Compilation}
use Rattle.modules_compilation.specs.declared.module_node.File.{File}
use Rattle.modules_compilation.specs.declared.module_node.ModuleNode.{ModuleNode}
use Rattle.modules_compilation.specs.declared.place.Place.{Place}
use Rattle.resolve_references.specs.Seen.{HasNumbers, HaveNumbers, Seen, seen_in}
use Rattle.resolve_analysis.specs.Bound.{bindings_of}
use Rattle.meaning_rules.specs.Worlds.Compiled.{FileView}
use Rattle.meaning_rules.specs.Worlds.Given.{World}
use Rattle.meaning_rules.proofs.Worlds.Places.{contains_at}
use Rattle.meaning_rules.specs.Worlds.Views.{file_view}
use Rattle.laws_modules.specs.Names.Names.{HasNode, views}
use Rattle.laws_modules.proofs.Names.Found.{mapped}
use Rattle.laws_modules.proofs.Names.Named.{node_is}
use Rattle.laws_names.specs.Reading.Meant.{IsNumberedWorld}
use Rattle.laws_names.specs.Reading.Places.{IsItemOf}
use Rattle.laws_names.proofs.Reading.Lists.{contains_flat, piece_once, piece_sorted}

-- what stands in a list stands in its part
to_take : {A : Type 0} (n : ℕ) (xs : List A) (i : ℕ) (a : A) → i < n → slice_get xs i ≡ Some a → slice_get (take n xs) i ≡ Some a
to_take zero xs i a lt e = absurd (omega (arith, lt))
to_take (suc n) [] i a lt e = e
to_take (suc n) (x ∷ xs) zero a lt e = e
to_take (suc n) (x ∷ xs) (suc i) a lt e = to_take n xs i a (omega (arith, lt)) e

to_drop : {A : Type 0} (n : ℕ) (xs : List A) (i : ℕ) (a : A) → n ≤ i → slice_get xs i ≡ Some a → slice_get (drop n xs) (i - n) ≡ Some a
to_drop zero xs i a le e = let same : i - 0 ≡ i = omega arith in ap (slice_get xs) same ∙ e
to_drop (suc n) [] i a le e = absurd (none-some a e)
to_drop (suc n) (x ∷ xs) zero a le e = absurd (omega (arith, le))
to_drop (suc n) (x ∷ xs) (suc i) a le e = let same : suc i - suc n ≡ i - n = omega arith in ap (slice_get (drop n xs)) same ∙ to_drop n xs i a (omega (arith, le)) e

number_apart : (number : ℕ) → nat_cmp number number ≡ Less → ⊥
number_apart number e = let both = sym (tied_itself nat_cmp_total number) ∙ e in cc both

-- the file in which an item stands
file_of : (compilation : Compilation) (place : Place) (item : Item) → item_at compilation place ≡ Some item
    → (file : File) × (slice_get compilation.files.items place.file ≡ Some file) × (slice_get file.ast.items.items place.item ≡ Some item)
file_of compilation place item e = by_file (slice_get compilation.files.items place.file) refl e
  where
    by_file : (o : Option File) → slice_get compilation.files.items place.file ≡ o → slice_get (items_of o) place.item ≡ Some item
        → (file : File) × (slice_get compilation.files.items place.file ≡ Some file) × (slice_get file.ast.items.items place.item ≡ Some item)
    by_file None is e = absurd (none-some item e)
    by_file (Some file) is e = (file, is, e)

module _ (w : World) (compilation : Compilation) (n : IsNumberedWorld w compilation) where
  abbrev in_file : File → List ℕ
  in_file file = bindings_in file.ast.items.items

  all_sorted : IsStrictlySortedBy nat_cmp (flat_map in_file compilation.files.items)
  all_sorted = subst (IsStrictlySortedBy nat_cmp) (flat_map-map (λ (f : FileView). f.bindings) file_view compilation.files.items) n.of.bindings

  has_number : (place : Place) (item : Item) (file : File) (number : ℕ) → slice_get file.ast.items.items place.item ≡ Some item → Contains (binding_numbers item) number → Contains (in_file file) number
  has_number place item file number e c = contains_flat binding_numbers file.ast.items.items item number (contains_at file.ast.items.items place.item item e) c

  -- two items with one number are the same
  pub numbered_once : (p q : Place) (a b : Item) → item_at compilation p ≡ Some a → item_at compilation q ≡ Some b → (number : ℕ) → Contains (binding_numbers a) number → Contains (binding_numbers b) number → a ≡ b
  numbered_once p q a b e f number c d =
      let x = file_of compilation p a e in
      let y = file_of compilation q b f in
      let files : p.file ≡ q.file = piece_once nat_cmp number_apart in_file compilation.files.items all_sorted p.file q.file x.0 y.0 number x.1 y.1 (has_number p a x.0 number x.2 c) (has_number q b y.0 number y.2 d) in
      let same : x.0 ≡ y.0 = same_Some x.0 y.0 (sym x.1 ∙ ap (slice_get compilation.files.items) files ∙ y.1) in
      let here : slice_get y.0.ast.items.items p.item ≡ Some a = subst (λ (z : File). slice_get z.ast.items.items p.item ≡ Some a) same x.2 in
      let in_order = piece_sorted nat_cmp number_apart in_file compilation.files.items all_sorted q.file y.0 y.1 in
      let items : p.item ≡ q.item = piece_once nat_cmp number_apart binding_numbers y.0.ast.items.items in_order p.item q.item a b number here y.2 c d in
      same_Some a b (sym here ∙ ap (slice_get y.0.ast.items.items) items ∙ y.2)

  -- no number is a constant's
  pub above_constants : (p : Place) (a : Item) → item_at compilation p ≡ Some a → (number : ℕ) → Contains (binding_numbers a) number → length constant_rows ≤ number
  above_constants p a e number c =
      let x = file_of compilation p a e in
      let view = mapped file_view compilation.files.items p.file x.0 x.1 in
      All-contains (λ m. length constant_rows ≤ m) (in_file x.0) number (n.above p.file (file_view x.0) view) (has_number p a x.0 number x.2 c)

  -- what its attributes, its name and its place make of an item
  pub own_item : (p : Place) (a : Item) → item_at compilation p ≡ Some a → IsOwnItem w.expansion a
  own_item p a e =
      let x = file_of compilation p a e in
      All-contains (IsOwnItem w.expansion) x.0.ast.items.items a (n.options p.file x.0 x.1) (contains_at x.0.ast.items.items p.item a x.2)

  -- the variables of what a module's files have are bound by the module
  pub bound_in : (k : ℕ) (node : ModuleNode) → HasNode w compilation k node → (item : Item) → IsItemOf compilation node item → (s : Seen) → Contains (seen_in item) s → HasNumbers (bindings_of compilation node) s
  bound_in k node here item i s c =
      let p = i.place in
      let from = i.from in
      let to = i.to in
      let x = file_of compilation p item i.there in
      let view = mapped file_view compilation.files.items p.file x.0 x.1 in
      let is = node_is w compilation n.of k node here in
      let behind = to_drop node.first_file (views w compilation) p.file (file_view x.0) from view in
      let part = to_take (node.end_file - node.first_file) (drop node.first_file (views w compilation)) (p.file - node.first_file) (file_view x.0) (omega (arith, from, to)) behind in
      let module_is : x.0.module ≡ k = (is.own_files.each (p.file - node.first_file) (file_view x.0) part).0 in
      let there : slice_get compilation.modules.items x.0.module ≡ Some node = ap (slice_get compilation.modules.items) module_is ∙ here in
      let all = All-contains (HaveNumbers (bindings_of compilation node)) x.0.ast.items.items item (n.bound p.file x.0 node x.1 there) (contains_at x.0.ast.items.items p.item item x.2) in
      All-contains (HasNumbers (bindings_of compilation node)) (seen_in item) s all c
