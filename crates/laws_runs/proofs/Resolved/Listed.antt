-- The definitions of a kind that a module keeps, by their places and names.
use Rattle.std.proofs.Common.{◌≡◌, ◌↔◌, sym, ◌∙◌, ap, subst, List, ℕ, Option, Some, None, refl, arith, true≢false, map}
use Rattle.std.specs.Prelude.{slice_get, Contains}
use Rattle.std.specs.List.Sorted.{IsStrictlySortedBy}
use Rattle.std.specs.Str.{bytes_eq}
use Rattle.std.proofs.lemmas.Option.{slice_get_within}
use Rattle.std.proofs.lemmas.Slice.Eq.{bytes_eq-Decides}
use Rattle.tree_items.specs.Files.{ItemShape}
use Rattle.modules_compilation.specs.Tables.{text_cmp}
use Rattle.modules_compilation.specs.declared.compilation.Compilation.{Compilation}
use Rattle.modules_compilation.specs.declared.module_node.ModuleNode.{ModuleNode}
use Rattle.modules_compilation.specs.declared.place.Place.{Place}
use Rattle.resolve_recipes.specs.Named.{first_named, text_at}
use Rattle.meaning_rules.specs.Worlds.Given.{Text, World}
use Rattle.meaning_rules.specs.Worlds.Keeping.{IsDefined, KeepsAt, Kind}
use Rattle.meaning_rules.specs.Worlds.Compiled.{HasList, IsAt}
use Rattle.meaning_rules.proofs.Worlds.Kept.{keeps_at_most_one}
use Rattle.meaning_rules.proofs.Worlds.Places.{contains_at, place_of}
use Rattle.meaning_rules.specs.Worlds.Views.{node_view}
use Rattle.laws_modules.specs.Names.Names.{HasNode, IsOfWorld, nodes, views}
use Rattle.laws_modules.proofs.Names.Defined.{none_defined}
use Rattle.laws_modules.proofs.Names.Found.{found_at, mapped, mapped_at, none_found, there_within}
use Rattle.laws_modules.proofs.Names.Named.{node_is}
use Rattle.laws_runs.specs.Resolved.Definitions.{key_at, shape_at}
use Rattle.laws_runs.proofs.Resolved.Items.{key_is, shape_is, text_is}
use Rattle.laws_runs.proofs.Resolved.Lists.{map_is}

module _ (w : World) (compilation : Compilation) (node : ModuleNode) (kind : Kind) where
  -- what stands at the place is the definition of the name that the module keeps
  pub record IsListed (name : Text) (place : Place) : Type 0 where
    pub key : Text
    pub at : ℕ
    pub item : ItemShape
    pub there : IsAt w (views w compilation) (nodes w compilation) (node_view node) place key at item
    pub keeps : KeepsAt w node.source.now kind name key at item
    pub shaped : shape_at compilation place ≡ Some item
    pub keyed : key_at compilation place ≡ key
    pub texted : text_at compilation place ≡ name

  -- such a definition is one that the module has
  pub listed_defined : (name : Text) (place : Place) → IsListed name place → IsDefined w node.source.now kind name
  listed_defined name place l = record { key = l.key; place = l.at; item = l.item; defines = l.keeps.defines }

module _ (w : World) (compilation : Compilation) (is : IsOfWorld w compilation) (k : ℕ) (node : ModuleNode) (here : HasNode w compilation k node)
    (kind : Kind) (places : List Place) (has : HasList w (views w compilation) (nodes w compilation) (node_view node) kind places) where
  abbrev IsListedHere : Text → Place → Type 0
  IsListedHere name place = IsListed w compilation node kind name place

  -- the name and the place that stand at one place of the lists
  pub listed : (n : ℕ) (name : Text) (place : Place) → slice_get has.0 n ≡ Some name → slice_get places n ≡ Some place → IsListedHere name place
  listed n name place e f =
      let s = has.1.sound n name place e f in
      record {
        key = s.0;
        at = s.1;
        item = s.2;
        there = s.3;
        keeps = s.4;
        shaped = shape_is w compilation (node_view node) place s.0 s.1 s.2 s.3;
        keyed = key_is w compilation (node_view node) place s.0 s.1 s.2 s.3;
        texted = text_is w compilation (node_view node) place s.0 s.1 s.2 s.3 kind name s.4.defines.is;
      }

  -- a place of the list has a definition of some name
  pub listed_at : (place : Place) → Contains places place → (name : Text) × IsListedHere name place
  listed_at place c =
      let p = place_of places place c in
      let lt = slice_get_within places p.0 place p.1 in
      let many = has.1.many in
      let t = there_within has.0 p.0 (omega (arith, lt, many)) in
      (t.0, listed p.0 t.0 place t.1 p.1)

  -- a name of the list has its definition at some place
  named_at : (name : Text) → Contains has.0 name → (place : Place) × Contains places place × IsListedHere name place
  named_at name c =
      let p = place_of has.0 name c in
      let lt = slice_get_within has.0 p.0 name p.1 in
      let many = has.1.many in
      let t = there_within places p.0 (omega (arith, lt, many)) in
      (t.0, contains_at places p.0 t.0 t.1, listed p.0 name t.0 p.1 t.1)

  -- ---- the place of a name

  -- the place of the definition that the module keeps, or none where it has none
  abbrev pub IsFound : Text → Option Place → Type 0
  IsFound name (Some place) = Contains places place × IsListedHere name place
  IsFound name None = IsDefined w node.source.now kind name → ⊥

  pub found_is : (name : Text) (found : Option Place) → first_named (text_at compilation) places name ≡ found → IsFound name found
  found_is name (Some place) e =
      let f = found_at (λ p. bytes_eq (text_at compilation p) name) places place e in
      let c = contains_at places f.0 place f.1 in
      let l = listed_at place c in
      let same : l.0 ≡ name = sym l.1.texted ∙ (bytes_eq-Decides (text_at compilation place) name).0 f.2 in
      (c, subst (λ t. IsListedHere t place) same l.1)
  found_is name None e = none_defined w node.source.now kind name _ (node_is w compilation is k node here).own_files.order (λ item h.
      let q = named_at name (has.1.complete name item h) in
      let p = place_of places q.0 q.1 in
      let no_text = none_found (λ p. bytes_eq (text_at compilation p) name) places e p.0 q.0 p.1 in
      true≢false (sym ((bytes_eq-Decides (text_at compilation q.0) name).1 q.2.texted) ∙ no_text))

  -- where the name is defined, it has a place
  pub record IsFirst (name : Text) : Type 0 where
    pub place : Place
    pub found : first_named (text_at compilation) places name ≡ Some place
    pub contained : Contains places place
    pub stands : IsListedHere name place

  pub first_of : (name : Text) → IsDefined w node.source.now kind name → IsFirst name
  first_of name d = by_found (first_named (text_at compilation) places name) refl
    where
      by_found : (found : Option Place) → first_named (text_at compilation) places name ≡ found → IsFirst name
      by_found (Some place) e = let f = found_is name (Some place) e in record { place = place; found = e; contained = f.0; stands = f.1 }
      by_found None e = absurd (found_is name None e d)

  -- the definition that is kept is the one that is found
  pub record IsKept (name key : Text) (at : ℕ) (item : ItemShape) : Type 0 where
    pub place : Place
    pub found : first_named (text_at compilation) places name ≡ Some place
    pub contained : Contains places place
    pub there : IsAt w (views w compilation) (nodes w compilation) (node_view node) place key at item
    pub shaped : shape_at compilation place ≡ Some item
    pub keyed : key_at compilation place ≡ key

  pub kept_found : (name key : Text) (at : ℕ) (item : ItemShape) → KeepsAt w node.source.now kind name key at item → IsKept name key at item
  kept_found name key at item keeps =
      let f = first_of name (record { key = key; place = at; item = item; defines = keeps.defines }) in
      let s = f.stands in
      let same = keeps_at_most_one w node.source.now kind name s.key key s.at at s.item item s.keeps keeps in
      record {
        place = f.place;
        found = f.found;
        contained = f.contained;
        there = subst (IsAt w (views w compilation) (nodes w compilation) (node_view node) f.place key at) same.2
            (subst (λ n. IsAt w (views w compilation) (nodes w compilation) (node_view node) f.place key n s.item) same.1
            (subst (λ t. IsAt w (views w compilation) (nodes w compilation) (node_view node) f.place t s.at s.item) same.0 s.there));
        shaped = s.shaped ∙ ap (λ i. Some i) same.2;
        keyed = s.keyed ∙ same.0;
      }

  -- ---- the names

  pub names_are : map (text_at compilation) places ≡ has.0
  names_are = map_is (text_at compilation) has.0 places has.1.many (λ n name place e f. (listed n name place e f).texted)

  pub names_sorted : IsStrictlySortedBy text_cmp (map (text_at compilation) places)
  names_sorted = subst (IsStrictlySortedBy text_cmp) (sym names_are) has.1.sorted

  pub names_defined : (name : Text) → Contains (map (text_at compilation) places) name ↔ IsDefined w node.source.now kind name
  names_defined name = (
    λ c.
        let p = place_of (map (text_at compilation) places) name c in
        let q = mapped_at (text_at compilation) places p.0 name p.1 in
        let l = listed_at q.0 (contains_at places p.0 q.0 q.1) in
        subst (IsDefined w node.source.now kind) (sym l.1.texted ∙ q.2) (listed_defined w compilation node kind l.0 q.0 l.1),
    λ d.
        let f = first_of name d in
        let p = place_of places f.place f.contained in
        subst (Contains (map (text_at compilation) places)) f.stands.texted (contains_at (map (text_at compilation) places) p.0 (text_at compilation f.place) (mapped (text_at compilation) places p.0 f.place p.1)),
  )
