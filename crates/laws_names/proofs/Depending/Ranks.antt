-- Where items of a module's files stand in the compilation, in the order of the world.
use Rattle.std.proofs.Common.{◌≡◌, ◌≢◌, ◌⊎◌, inl, inr, sym, ◌∙◌, ap, not, Bool, true, false, List, [], ◌∷◌, ◌+◌, ◌-◌, ◌<◌, ◌≤◌, ℕ, zero, suc, Some, refl, arith, drop, length, map, nat_eq, take}
use Rattle.std.specs.Prelude.{slice_get}
use Rattle.std.proofs.lemmas.Bool.Decides.{eqb_tells}
use Rattle.std.proofs.lemmas.Option.{none-some, same_Some}
use Rattle.tree_items.specs.Files.{ItemShape, is_blank}
use Rattle.modules_compilation.specs.declared.compilation.Compilation.{Compilation}
use Rattle.modules_compilation.specs.declared.module_node.ModuleNode.{ModuleNode}
use Rattle.modules_compilation.specs.declared.place.Place.{Place}
use Rattle.meaning_rules.specs.Worlds.Given.{Text, World, filled}
use Rattle.meaning_rules.specs.Worlds.Sources.{Has, IsFileOf}
use Rattle.meaning_rules.specs.Worlds.Compiled.{FileView, IsAt, files_of}
use Rattle.meaning_rules.proofs.Worlds.Places.{place_of}
use Rattle.meaning_rules.proofs.Worlds.Reading.{orders_have_reached}
use Rattle.laws_modules.proofs.Definitions.Lists.{from_rank, rank_less}
use Rattle.meaning_rules.specs.Worlds.Views.{node_view}
use Rattle.laws_modules.specs.Names.Names.{HasNode, IsOfWorld, nodes, views}
use Rattle.laws_modules.proofs.Names.Found.{mapped, mapped_at, part_at}
use Rattle.laws_modules.proofs.Names.Named.{node_is}

-- ---- items without blank lines

not_true : (b : Bool) → not b ≡ true → b ≡ false
not_true true e = absurd (cc e)
not_true false e = refl

-- what stands without blank lines stands with them
filled_back : (items : List ItemShape) (at : ℕ) (item : ItemShape) → slice_get (filled items) at ≡ Some item → (i : ℕ) × (slice_get items i ≡ Some item) × (is_blank item ≡ false) × (length (filled (take i items)) ≡ at)
unfolding filled
filled_back items at item e =
    let p = from_rank (λ x. not (is_blank x)) items at item e in
    (p.0, p.1, not_true (is_blank item) p.2, p.3)

filled_less : (items : List ItemShape) (i j : ℕ) (item : ItemShape) → i < j → slice_get items i ≡ Some item → is_blank item ≡ false → length (filled (take i items)) < length (filled (take j items))
unfolding filled
filled_less items i j item lt e is = rank_less (λ x. not (is_blank x)) items i j item lt e (ap not is)

-- ---- a part of a list

drop_at : {A : Type 0} (first : ℕ) (xs : List A) (i j : ℕ) (a : A) → first + i ≡ j → slice_get xs j ≡ Some a → slice_get (drop first xs) i ≡ Some a
drop_at zero xs i j a e at = let same : i ≡ j = omega (arith, e) in ap (slice_get xs) same ∙ at
drop_at (suc first) [] i j a e at = absurd (none-some a at)
drop_at (suc first) (x ∷ xs) i zero a e at = absurd (omega (arith, e))
drop_at (suc first) (x ∷ xs) i (suc j) a e at = drop_at first xs i j a (omega (arith, e)) at

take_at : {A : Type 0} (many : ℕ) (xs : List A) (i : ℕ) (a : A) → i < many → slice_get xs i ≡ Some a → slice_get (take many xs) i ≡ Some a
take_at zero xs i a lt at = absurd (omega (arith, lt))
take_at (suc many) [] i a lt at = absurd (none-some a at)
take_at (suc many) (x ∷ xs) zero a lt at = at
take_at (suc many) (x ∷ xs) (suc i) a lt at = take_at many xs i a (omega (arith, lt)) at

take_within : {A : Type 0} (many : ℕ) (xs : List A) (i : ℕ) (a : A) → slice_get (take many xs) i ≡ Some a → i < many
take_within zero xs i a at = absurd (none-some a at)
take_within (suc many) [] i a at = absurd (none-some a at)
take_within (suc many) (x ∷ xs) zero a at = omega arith
take_within (suc many) (x ∷ xs) (suc i) a at = let lt = take_within many xs i a at in omega (arith, lt)

in_range : (first end file : ℕ) → first ≤ file → file < end → (first + (file - first) ≡ file) × (file - first < end - first)
in_range first end file from to = (omega (arith, from), omega (arith, from, to))

module _ (w : World) (compilation : Compilation) (is : IsOfWorld w compilation) (k : ℕ) (node : ModuleNode) (here : HasNode w compilation k node) where
  abbrev pub AtPlace : Place → Text → ℕ → ItemShape → Type 0
  AtPlace = IsAt w (views w compilation) (nodes w compilation) (node_view node)

  -- the module's files in reading order
  abbrev pub own_keys : List Text
  own_keys = map (λ (f : FileView). f.key) (files_of w (views w compilation) (nodes w compilation) (node_view node))

  -- an item of the world stands at a place of the module's files
  pub place_there : (key : Text) (at : ℕ) (item : ItemShape) → IsFileOf w node.source.now key → Has w key at item → (place : Place) × AtPlace place key at item
  place_there key at item of has =
      let n = node_is w compilation is k node here in
      let p = place_of own_keys key ((orders_have_reached w node.source.now own_keys n.own_files.order key).1 of) in
      let f = mapped_at (λ (f : FileView). f.key) (files_of w (views w compilation) (nodes w compilation) (node_view node)) p.0 key p.1 in
      with_file p.0 f.0 f.1 f.2
    where
      with_file : (i : ℕ) (file : FileView) → slice_get (files_of w (views w compilation) (nodes w compilation) (node_view node)) i ≡ Some file → file.key ≡ key → (place : Place) × AtPlace place key at item
      with_file i file found named =
          let there = part_at node.first_file (node.end_file - node.first_file) (views w compilation) i file found in
          let lt = take_within (node.end_file - node.first_file) (drop node.first_file (views w compilation)) i file found in
          let said : has.items ≡ filled file.items = same_Some has.items (filled file.items) (sym has.says ∙ ap w.said (sym named) ∙ is.read (node.first_file + i) file there) in
          let b = filled_back file.items at item (ap (λ xs. slice_get xs at) (sym said) ∙ has.at) in
          (record { file = node.first_file + i; item = b.0 }, record { from = omega arith; to = omega (arith, lt); file = file; found = there; is = named; there = b.1; no_blank = b.2; rank = b.3 })

  -- the file of a place in the module's reading order
  pub own_key : (place : Place) (key : Text) (at : ℕ) (item : ItemShape) → AtPlace place key at item → slice_get own_keys (place.file - node.first_file) ≡ Some key
  own_key place key at item h =
      let r = in_range node.first_file node.end_file place.file h.from h.to in
      let there = take_at (node.end_file - node.first_file) (drop node.first_file (views w compilation)) (place.file - node.first_file) h.file r.1
      (drop_at node.first_file (views w compilation) (place.file - node.first_file) place.file h.file r.0 h.found) in
      mapped (λ (f : FileView). f.key) (files_of w (views w compilation) (nodes w compilation) (node_view node)) (place.file - node.first_file) h.file there ∙ ap (λ t. Some t) h.is

  -- in one file what stands no later has no higher rank
  pub rank_at_most : (place place' : Place) (key key' : Text) (at at' : ℕ) (item item' : ItemShape) → AtPlace place key at item → AtPlace place' key' at' item' → place.file ≡ place'.file → place.item ≤ place'.item → at ≤ at'
  rank_at_most place place' key key' at at' item item' h h' same le = by_item (eqb_tells place.item place'.item)
    where
      one : h.file ≡ h'.file
      one = same_Some h.file h'.file (sym h.found ∙ ap (slice_get (views w compilation)) same ∙ h'.found)

      rank' : length (filled (take place'.item h.file.items)) ≡ at'
      rank' = ap (λ (f : FileView). length (filled (take place'.item f.items))) one ∙ h'.rank

      by_item : ((nat_eq place.item place'.item ≡ true) × (place.item ≡ place'.item)) ⊎ ((nat_eq place.item place'.item ≡ false) × (place.item ≢ place'.item)) → at ≤ at'
      by_item (inl p) =
          let ranks : at ≡ at' = sym h.rank ∙ ap (λ n. length (filled (take n h.file.items))) p.1 ∙ rank' in
          omega (arith, ranks)
      by_item (inr p) =
          let ne = p.1 in
          let less = filled_less h.file.items place.item place'.item item (omega (arith, le, ne)) h.there h.no_blank in
          let r = h.rank in
          let r' = rank' in
          omega (arith, less, r, r')
