-- Places of a module's files, and what stands there in the world.
use Rattle.std.proofs.Common.{◌≡◌, ◌≢◌, inl, inr, sym, ◌∙◌, ap, ap₂, subst, suc, Bool, true, false, not, List, ℕ, ◌+◌, ◌-◌, ◌<◌, ◌≤◌, Some, refl, arith, drop, take, length, map}
use Rattle.std.specs.Prelude.{slice_get}
use Rattle.std.proofs.lemmas.Bool.Decides.{eqb_tells, leb_tells}
use Rattle.std.proofs.lemmas.Option.{same_Some}
use Rattle.tree_items.specs.Files.{ItemShape, is_blank, item_shapes}
use Rattle.modules_compilation.specs.declared.module_node.File.{File}
use Rattle.modules_compilation.specs.declared.module_node.ModuleNode.{ModuleNode}
use Rattle.modules_compilation.specs.declared.place.Place.{Place}
use Rattle.modules_definitions.proofs.Elements.{place_of}
use Rattle.meaning_rules.specs.Worlds.Given.{Text, World, filled}
use Rattle.meaning_rules.specs.Worlds.Sources.{Has, IsFileOf}
use Rattle.meaning_rules.specs.Worlds.Compiled.{FileView, IsAt, NodeView}
use Rattle.meaning_rules.proofs.Worlds.Reading.{orders_have_once, orders_have_reached}
use Rattle.laws_modules.specs.Files.Files.{AreFiles, keys_of}
use Rattle.meaning_rules.specs.Worlds.Views.{file_view, node_view}
use Rattle.laws_modules.proofs.Definitions.Lists.{from_rank, map_back, map_place, range_back, range_place, rank_less, to_rank}

-- ---- items without blank lines

not_true : (b : Bool) → not b ≡ true → b ≡ false
not_true true e = absurd (cc e)
not_true false e = refl

filled_place : (items : List ItemShape) (i : ℕ) (item : ItemShape) → slice_get items i ≡ Some item → is_blank item ≡ false → slice_get (filled items) (length (filled (take i items))) ≡ Some item
unfolding filled
filled_place items i item e is = to_rank (λ x. not (is_blank x)) items i item e (ap not is)

filled_back : (items : List ItemShape) (at : ℕ) (item : ItemShape) → slice_get (filled items) at ≡ Some item → (i : ℕ) × (slice_get items i ≡ Some item) × (is_blank item ≡ false) × (length (filled (take i items)) ≡ at)
unfolding filled
filled_back items at item e =
    let p = from_rank (λ x. not (is_blank x)) items at item e in
    (p.0, p.1, not_true (is_blank item) p.2, p.3)

pub filled_less : (items : List ItemShape) (i j : ℕ) (item : ItemShape) → i < j → slice_get items i ≡ Some item → is_blank item ≡ false → length (filled (take i items)) < length (filled (take j items))
unfolding filled
filled_less items i j item lt e is = rank_less (λ x. not (is_blank x)) items i j item lt e (ap not is)

-- ---- places

-- what stands at a place of the files
pub record Placed (files : List File) (node : ModuleNode) (place : Place) (key : Text) (at : ℕ) (item : ItemShape) : Type 0 where
  pub from : node.first_file ≤ place.file
  pub to : place.file < node.end_file
  pub file : File
  pub found : slice_get files place.file ≡ Some file
  pub is : file.key.now ≡ key
  pub there : slice_get (item_shapes file.ast.items.items) place.item ≡ Some item
  pub no_blank : is_blank item ≡ false
  pub rank : length (filled (take place.item (item_shapes file.ast.items.items))) ≡ at

module _ (w : World) (files : List File) (nodes : List NodeView) (node : ModuleNode) (place : Place) (key : Text) (at : ℕ) (item : ItemShape) where
  pub as_placed : IsAt w (map file_view files) nodes (node_view node) place key at item → Placed files node place key at item
  as_placed h =
      let p = map_back file_view files place.file h.file h.found in
      record {
        from = h.from;
        to = h.to;
        file = p.0;
        found = p.1;
        is = ap (λ (f : FileView). f.key) p.2 ∙ h.is;
        there = ap (λ (f : FileView). slice_get f.items place.item) p.2 ∙ h.there;
        no_blank = h.no_blank;
        rank = ap (λ (f : FileView). length (filled (take place.item f.items))) p.2 ∙ h.rank;
      }

  pub from_placed : Placed files node place key at item → IsAt w (map file_view files) nodes (node_view node) place key at item
  from_placed p = record { from = p.from; to = p.to; file = file_view p.file; found = map_place file_view files place.file p.file p.found; is = p.is; there = p.there; no_blank = p.no_blank; rank = p.rank }

back : (a q : ℕ) → a ≤ q → a + (q - a) ≡ q
back a q le = omega (arith, le)

same_sum : (a p q : ℕ) → a ≤ p → a ≤ q → p - a ≡ q - a → p ≡ q
same_sum a p q le less e = omega (arith, le, less, e)

module _ (w : World) (files : List File) (node : ModuleNode) (k : ℕ) (own : AreFiles w k node.source.now (drop node.first_file (take node.end_file files))) where
  abbrev own_files : List File
  own_files = drop node.first_file (take node.end_file files)

  own_place : (q : ℕ) (file : File) → node.first_file ≤ q → q < node.end_file → slice_get files q ≡ Some file → slice_get own_files (q - node.first_file) ≡ Some file
  own_place q file from to e = range_place node.first_file node.end_file files (q - node.first_file) q file (back node.first_file q from) to e

  -- what stands at a place is the world's
  pub has_placed : (place : Place) (key : Text) (at : ℕ) (item : ItemShape) → Placed files node place key at item → IsFileOf w node.source.now key × Has w key at item
  has_placed place key at item p =
      let f = own.each (place.file - node.first_file) p.file (own_place place.file p.file p.from p.to p.found) in
      let items = item_shapes p.file.ast.items.items in (
        subst (IsFileOf w node.source.now) p.is f.of,
        subst (λ q. Has w q at item) p.is (record { items = filled items; says = f.says; at = ap (slice_get (filled items)) (sym p.rank) ∙ filled_place items place.item item p.there p.no_blank }),
      )

  -- and what the world has in the module's files stands at a place
  pub placed_of : (key : Text) (at : ℕ) (item : ItemShape) → IsFileOf w node.source.now key → Has w key at item → (place : Place) × Placed files node place key at item
  placed_of key at item of has =
      let c = (orders_have_reached w node.source.now (keys_of own_files) own.order key).1 of in
      let p = place_of (keys_of own_files) key c in
      let q = map_back (λ (file : File). file.key.now) own_files p.0 key p.1 in
      let r = range_back node.first_file node.end_file files p.0 (node.first_file + p.0) q.0 refl q.1 in
      let f = own.each p.0 q.0 q.1 in
      let items = item_shapes q.0.ast.items.items in
      let said : has.items ≡ filled items = same_Some has.items (filled items) (sym has.says ∙ ap w.said (sym q.2) ∙ f.says) in
      let b = filled_back items at item (ap (λ xs. slice_get xs at) (sym said) ∙ has.at) in
      (record { file = node.first_file + p.0; item = b.0 }, record { from = omega arith; to = r.0; file = q.0; found = r.1; is = q.2; there = b.1; no_blank = b.2; rank = b.3 })

  -- where the file of a place is in the module's reading order
  pub key_place : (place : Place) (key : Text) (at : ℕ) (item : ItemShape) → Placed files node place key at item → slice_get (keys_of own_files) (place.file - node.first_file) ≡ Some key
  key_place place key at item p = map_place (λ (file : File). file.key.now) own_files (place.file - node.first_file) p.file (own_place place.file p.file p.from p.to p.found) ∙ ap (λ t. Some t) p.is

  -- a file has one place
  pub one_file : (place place' : Place) (key : Text) (at at' : ℕ) (item item' : ItemShape) → Placed files node place key at item → Placed files node place' key at' item' → place.file ≡ place'.file
  one_file place place' key at at' item item' p p' =
      let same = orders_have_once w node.source.now (keys_of own_files) own.order (place.file - node.first_file) (place'.file - node.first_file) key (key_place place key at item p) (key_place place' key at' item' p') in
      same_sum node.first_file place.file place'.file p.from p'.from same

-- in one file what stands before another has a lower rank
pub lower_rank : (files : List File) (node : ModuleNode) (place place' : Place) (key key' : Text) (at at' : ℕ) (item item' : ItemShape) → Placed files node place key at item → Placed files node place' key' at' item'
    → place.file ≡ place'.file → place.item < place'.item → at < at'
lower_rank files node place place' key key' at at' item item' p p' same lt =
    let one : p.file ≡ p'.file = same_Some p.file p'.file (sym p.found ∙ ap (slice_get files) same ∙ p'.found) in
    let less = filled_less (item_shapes p.file.ast.items.items) place.item place'.item item lt p.there p.no_blank in
    let there : length (filled (take place'.item (item_shapes p.file.ast.items.items))) ≡ at' = ap (λ (f : File). length (filled (take place'.item (item_shapes f.ast.items.items)))) one ∙ p'.rank in
    subst (λ n. at < n) there (subst (λ n. n < length (filled (take place'.item (item_shapes p.file.ast.items.items)))) p.rank less)

-- and the same key
pub same_key : (files : List File) (node : ModuleNode) (place place' : Place) (key key' : Text) (at at' : ℕ) (item item' : ItemShape) → Placed files node place key at item → Placed files node place' key' at' item'
    → place.file ≡ place'.file → key ≡ key'
same_key files node place place' key key' at at' item item' p p' same =
    let one : p.file ≡ p'.file = same_Some p.file p'.file (sym p.found ∙ ap (slice_get files) same ∙ p'.found) in
    sym p.is ∙ ap (λ (f : File). f.key.now) one ∙ p'.is

-- and what stands no later has no higher one
pub rank_at_most : (files : List File) (node : ModuleNode) (place place' : Place) (key key' : Text) (at at' : ℕ) (item item' : ItemShape) → Placed files node place key at item → Placed files node place' key' at' item'
    → place.file ≡ place'.file → place.item ≤ place'.item → at ≤ at'
rank_at_most files node place place' key key' at at' item item' p p' same le = elim (eqb_tells place.item place'.item) [
  | inl q ↦
      let one : p.file ≡ p'.file = same_Some p.file p'.file (sym p.found ∙ ap (slice_get files) same ∙ p'.found) in
      let ranks : at ≡ at' = sym p.rank ∙ ap (λ n. length (filled (take n (item_shapes p.file.ast.items.items)))) q.1 ∙ ap (λ (f : File). length (filled (take place'.item (item_shapes f.ast.items.items)))) one ∙ p'.rank in
      omega (arith, ranks)
  | inr q ↦
      let ne : place.item ≢ place'.item = q.1 in
      let less = lower_rank files node place place' key key' at at' item item' p p' same (omega (arith, le, ne)) in
      omega (arith, less)
]

-- in one file what has the same rank has the same place
pub one_rank : (files : List File) (node : ModuleNode) (place place' : Place) (key key' : Text) (at at' : ℕ) (item item' : ItemShape) → Placed files node place key at item → Placed files node place' key' at' item'
    → place.file ≡ place'.file → at ≡ at' → place ≡ place'
one_rank files node place place' key key' at at' item item' p p' same e = elim (eqb_tells place.item place'.item) [
  | inl q ↦ ap₂ (λ file item. record { file = file; item = item }) same q.1
  | inr q ↦
      let ne : place.item ≢ place'.item = q.1 in
      absurd (elim (leb_tells (suc place.item) place'.item) [
        | inl less ↦ let lt = less.1 in let ranks = lower_rank files node place place' key key' at at' item item' p p' same lt in omega (arith, ranks, e)
        | inr more ↦ let le = more.1 in let ranks = lower_rank files node place' place key' key at' at item' item p' p (sym same) (omega (arith, le, ne)) in omega (arith, ranks, e)
      ])
]

-- a place has one item alone
pub one_item : (files : List File) (node : ModuleNode) (place place' : Place) (key key' : Text) (at at' : ℕ) (item item' : ItemShape) → Placed files node place key at item → Placed files node place' key' at' item' → place ≡ place' → item ≡ item'
one_item files node place place' key key' at at' item item' p p' same =
    let one : p.file ≡ p'.file = same_Some p.file p'.file (sym p.found ∙ ap (λ (q : Place). slice_get files q.file) same ∙ p'.found) in
    same_Some item item' (sym p.there ∙ ap (λ (q : Place). slice_get (item_shapes p.file.ast.items.items) q.item) same ∙ ap (λ (f : File). slice_get (item_shapes f.ast.items.items) place'.item) one ∙ p'.there)

-- and the same rank
pub same_rank : (files : List File) (node : ModuleNode) (place place' : Place) (key key' : Text) (at at' : ℕ) (item item' : ItemShape) → Placed files node place key at item → Placed files node place' key' at' item' → place ≡ place' → at ≡ at'
same_rank files node place place' key key' at at' item item' p p' same =
    let one : p.file ≡ p'.file = same_Some p.file p'.file (sym p.found ∙ ap (λ (q : Place). slice_get files q.file) same ∙ p'.found) in
    sym p.rank ∙ ap (λ (q : Place). length (filled (take q.item (item_shapes p.file.ast.items.items)))) same ∙ ap (λ (f : File). length (filled (take place'.item (item_shapes f.ast.items.items)))) one ∙ p'.rank
