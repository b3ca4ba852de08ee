-- The submodules that a module of a compilation offers are those that its world offers.
use Rattle.std.proofs.Common.{◌≡◌, ◌≢◌, ◌∙◌, ◌⊎◌, inl, inr, ◌+◌, ◌-◌, ◌<◌, ◌≤◌, ap, sym, subst, refl, arith, true≢false, ℕ, zero, suc, Bool, true, false, not, cond, if◌then◌else◌, List, [], ◌∷◌, map, take, drop, Option, Some, None}
use Rattle.std.specs.Prelude.{Contains, filter, slice_get}
use Rattle.std.specs.List.{cons_option, filter_map}
use Rattle.std.specs.List.Sorted.{IsStrictlySortedBy}
use Rattle.std.specs.Option.{option_and_then}
use Rattle.std.specs.Str.{bytes_eq}
use Rattle.std.proofs.lemmas.Bool.Decides.{eqb_tells}
use Rattle.std.proofs.lemmas.Option.{none-some, same_Some}
use Rattle.std.proofs.lemmas.Slice.Eq.{bytes_eq-Decides}
use Rattle.tree_attributes.specs.Attributes.{AttributeShape}
use Rattle.tree_attributes.specs.Sets.Sets.{items_of as attributes_in, shapes_in}
use Rattle.tree_items.specs.declared.ast.Item.{Item}
use Rattle.tree_items.specs.declared.ast.Item.TheVariants as items
use Rattle.tree_items.specs.declared.item.Module.{Module}
use Rattle.tree_items.specs.Files.{ItemShape, item_shape, module_item}
use Rattle.tree_items.specs.Items.{ModuleShape}
use Rattle.modules_compilation.specs.Places.{text_of}
use Rattle.modules_compilation.specs.Tables.{text_cmp}
use Rattle.modules_compilation.specs.declared.compilation.Compilation.{Compilation}
use Rattle.modules_compilation.specs.declared.module_node.ModuleNode.{ModuleNode}
use Rattle.modules_compilation.specs.declared.place.Place.{Place}
use Rattle.resolve_recipes.specs.Named.{module_text, submodule_in}
use Rattle.meaning_rules.specs.Worlds.Compiled.{FileView, HasItem, IsAt, IsInside, NodeView, files_of}
use Rattle.meaning_rules.specs.Worlds.Given.{Text, World, filled}
use Rattle.meaning_rules.specs.Worlds.Keeping.{Defines, IsTwice, Kind, MayBoth, a_submodule, both_recipes, both_variables}
use Rattle.meaning_rules.specs.Worlds.Sources.{Has, IsFileOf, IsSubmodule, MayMean, enabled}
use Rattle.meaning_rules.proofs.Worlds.Places.{contains_at, contains_cases, contains_first, contains_later, contains_none, place_of}
use Rattle.meaning_rules.proofs.Worlds.Reading.{orders_have_reached}
use Rattle.meaning_rules.specs.Worlds.Views.{node_view}
use Rattle.laws_modules.specs.Names.Names.{AreSingle, HasNode, IsOfWorld, IsSubmoduleOf, nodes, views}
use Rattle.laws_modules.proofs.Names.Found.{mapped}
use Rattle.laws_modules.proofs.Names.Modules.{submodules_are_found}
use Rattle.laws_modules.proofs.Names.Named.{node_is}
use Rattle.laws_modules.proofs.Names.Standing.{item_there}
use Rattle.laws_runs.proofs.Resolved.Submodules.{found, inner_lists, listed, names_are, none_inside}
use Rattle.just_meaning.specs.Defining.{is_private as private_said}
use Rattle.justfile_analyzer.specs.Offers.{attributes_at, attributes_of, is_open, is_public, module_attributes, module_name, name_of, node_attributes}
use Rattle.meaning_texts.specs.Listings.{AreOfferedModules, IsOfferedModule}
use Rattle.meaning_texts.proofs.Blanks.{filled_at}
use Rattle.meaning_texts.proofs.Said.{private_is}
use Rattle.meaning_texts.proofs.Sorted.{made_back, made_there, sorted_given}

-- ---- lists

drop_at : {A : Type 0} (n : ℕ) (xs : List A) (i : ℕ) (a : A) → slice_get xs (n + i) ≡ Some a → slice_get (drop n xs) i ≡ Some a
drop_at zero xs i a e = let same : 0 + i ≡ i = omega arith in ap (slice_get xs) (sym same) ∙ e
drop_at (suc n) [] i a e = absurd (none-some a e)
drop_at (suc n) (x ∷ xs) i a e = let same : suc n + i ≡ suc (n + i) = omega arith in drop_at n xs i a (ap (slice_get (x ∷ xs)) (sym same) ∙ e)

take_at : {A : Type 0} (n : ℕ) (xs : List A) (i : ℕ) (a : A) → i < n → slice_get xs i ≡ Some a → slice_get (take n xs) i ≡ Some a
take_at zero xs i a lt e = absurd (omega (arith, lt))
take_at (suc n) [] i a lt e = e
take_at (suc n) (x ∷ xs) zero a lt e = e
take_at (suc n) (x ∷ xs) (suc i) a lt e = take_at n xs i a (omega (arith, lt)) e

part_there : {A : Type 0} (first end : ℕ) (xs : List A) (i : ℕ) (a : A) → first ≤ i → i < end → slice_get xs i ≡ Some a → slice_get (take (end - first) (drop first xs)) (i - first) ≡ Some a
part_there first end xs i a le lt e =
    let same : first + (i - first) ≡ i = omega (arith, le) in
    take_at (end - first) (drop first xs) (i - first) a (omega (arith, le, lt)) (drop_at first xs (i - first) a (ap (slice_get xs) same ∙ e))

module _ {A : Type 0} (test : A → Bool) where
  filter_back : (xs : List A) (a : A) → Contains (filter test xs) a → Contains xs a × (test a ≡ true)
  filter_back [] a c = absurd (contains_none [] a refl c)
  filter_back (x ∷ xs) a c = by_test (test x) refl c (filter_back xs a)
    where
      by_test : (b : Bool) → test x ≡ b → Contains (cond b (x ∷ filter test xs) (filter test xs)) a → (Contains (filter test xs) a → Contains xs a × (test a ≡ true)) → Contains (x ∷ xs) a × (test a ≡ true)
      by_test true e c more = elim (contains_cases x (filter test xs) a c) [
        | inl same ↦ (subst (Contains (x ∷ xs)) same (contains_first x xs), sym (ap test same) ∙ e)
        | inr d ↦ let r = more d in (contains_later x xs a r.0, r.1)
      ]
      by_test false e c more = let r = more c in (contains_later x xs a r.0, r.1)

  filter_there : (xs : List A) (a : A) → Contains xs a → test a ≡ true → Contains (filter test xs) a
  filter_there [] a c e = absurd (contains_none [] a refl c)
  filter_there (x ∷ xs) a c e = by_test (test x) refl (contains_cases x xs a c) (λ d. filter_there xs a d e)
    where
      by_test : (b : Bool) → test x ≡ b → (x ≡ a) ⊎ Contains xs a → (Contains xs a → Contains (filter test xs) a) → Contains (cond b (x ∷ filter test xs) (filter test xs)) a
      by_test true t (inl same) more = subst (Contains (x ∷ filter test xs)) same (contains_first x (filter test xs))
      by_test true t (inr d) more = contains_later x (filter test xs) a (more d)
      by_test false t (inl same) more = absurd (true≢false (sym e ∙ sym (ap test same) ∙ t))
      by_test false t (inr d) more = more d

  abbrev if_passes : A → Option A
  if_passes x = cond (test x) (Some x) None

  as_given : (xs : List A) → filter_map if_passes xs ≡ filter test xs
  as_given [] = refl
  as_given (x ∷ xs) = by_test (test x) ∙ ap (λ ys. cond (test x) (x ∷ ys) ys) (as_given xs)
    where
      by_test : (b : Bool) → cons_option (cond b (Some x) None) (filter_map if_passes xs) ≡ cond b (x ∷ filter_map if_passes xs) (filter_map if_passes xs)
      by_test true = refl
      by_test false = refl

  given_self : (x y : A) → if_passes x ≡ Some y → y ≡ x
  given_self x y e = by_test (test x) e
    where
      by_test : (b : Bool) → cond b (Some x) None ≡ Some y → y ≡ x
      by_test true e = sym (same_Some x y e)
      by_test false e = absurd (none-some y e)

-- ---- definitions of submodules

module _ (w : World) (own name : Text) where
  abbrev Submodule : Text → ℕ → ItemShape → Type 0
  Submodule key place item = Defines w own a_submodule name key place item

  same_text : (a b : Text) → (a ≡ b) ⊎ (a ≢ b)
  same_text a b = by_test (bytes_eq a b) refl
    where
      by_test : (c : Bool) → bytes_eq a b ≡ c → (a ≡ b) ⊎ (a ≢ b)
      by_test true e = inl ((bytes_eq-Decides a b).0 e)
      by_test false e = inr (λ same. true≢false (sym ((bytes_eq-Decides a b).1 same) ∙ e))

  never_both : {kind kind' : Kind} → MayBoth w own kind kind' → kind' ≡ a_submodule → ⊥
  never_both (both_recipes on) e = absurd (cc e)
  never_both (both_variables on) e = absurd (cc e)

  -- a module that has no two submodules of a name has one item that says it
  one_item : (IsTwice w own a_submodule name → ⊥) → (key key' : Text) (place place' : ℕ) (item item' : ItemShape) → Submodule key place item → Submodule key' place' item' → item ≡ item'
  one_item single key key' place place' item item' d d' = elim (eqb_tells place place') [
    | inl p ↦ elim (same_text key key') [
      | inl q ↦ same p.1 q
      | inr q ↦ absurd (twice (inl q))
    ]
    | inr p ↦ absurd (twice (inr p.1))
  ]
    where
      twice : (key ≢ key') ⊎ (place ≢ place') → ⊥
      twice others = single (record { key = key; place = place; item = item; defines = d; kind' = a_submodule; key' = key'; place' = place'; item' = item'; defines' = d'; spaces = refl; others = others; forbidden = λ may. never_both may refl })

      same : place ≡ place' → key ≡ key' → item ≡ item'
      same places keys =
          let h : Has w key' place' item = subst (λ q. Has w q place' item) keys (subst (λ n. Has w key n item) places d.has) in
          let all : h.items ≡ d'.has.items = same_Some h.items d'.has.items (sym h.says ∙ d'.has.says) in
          same_Some item item' (sym h.at ∙ ap (λ xs. slice_get xs place') all ∙ d'.has.at)

  abbrev as_submodule : Text → Option (Kind × Text)
  as_submodule text = Some (a_submodule, text)

  defines_here : (key : Text) (place : ℕ) (attributes : List AttributeShape) (line : ModuleShape) → IsFileOf w own key → Has w key place (module_item attributes line) → enabled w.os attributes ≡ true → line.name ≡ name → (file : Text)
      → MayMean w key line file → Submodule key place (module_item attributes line)
  defines_here key place attributes line of has on named file means =
      record { of = of; has = has; is = ap (λ (b : Bool). if b then as_submodule line.name else None) on ∙ ap as_submodule named; taken = (file, means) }

-- an item that says a submodule is one
module_shaped : (item : Item) (attributes : List AttributeShape) (line : ModuleShape) → item_shape item ≡ module_item attributes line → (m : Module) × (item ≡ items.Module m) × (shapes_in m.attributes ≡ attributes)
module_shaped (items.Alias a) attributes line e = absurd (cc e)
module_shaped (items.Assignment a) attributes line e = absurd (cc e)
module_shaped (items.Comment text) attributes line e = absurd (cc e)
module_shaped (items.Function f) attributes line e = absurd (cc e)
module_shaped (items.Import i) attributes line e = absurd (cc e)
module_shaped (items.Module m) attributes line e = let a : shapes_in m.attributes ≡ attributes = cc e in (m, refl, a)
module_shaped items.Newline attributes line e = absurd (cc e)
module_shaped (items.Recipe r) attributes line e = absurd (cc e)
module_shaped (items.Set s) attributes line e = absurd (cc e)
module_shaped (items.Unexport u) attributes line e = absurd (cc e)

module _ (w : World) (compilation : Compilation) (is : IsOfWorld w compilation) (single : AreSingle w compilation) (k : ℕ) (node : ModuleNode) (here : HasNode w compilation k node) where
  abbrev own : Text
  own = node.source.now

  -- what stands at a place of the node is said in a file of its module
  at_says : (place : Place) (key : Text) (at : ℕ) (item : ItemShape) → IsAt w (views w compilation) (nodes w compilation) (node_view node) place key at item → IsFileOf w own key × Has w key at item
  at_says place key at item h =
      let n = node_is w compilation is k node here in
      let part = part_there node.first_file node.end_file (views w compilation) place.file h.file h.from h.to h.found in
      let keys = contains_at (map (λ (f : FileView). f.key) (files_of w (views w compilation) (nodes w compilation) (node_view node))) (place.file - node.first_file) h.file.key (mapped (λ (f : FileView). f.key) _ (place.file - node.first_file) h.file part) in (
        subst (IsFileOf w own) h.is ((orders_have_reached w own _ n.own_files.order h.file.key).0 keys),
        record {
          items = filled h.file.items;
          says = ap w.said (sym h.is) ∙ is.read place.file h.file h.found;
          at = ap (slice_get (filled h.file.items)) (sym h.rank) ∙ filled_at h.file.items place.item item h.there h.no_blank;
        },
      )

  -- a submodule in the list: its item, whether it is public, and its name
  pub record IsShown (inner : ℕ) : Type 0 where
    pub key : Text
    pub at : ℕ
    pub attributes : List AttributeShape
    pub line : ModuleShape
    pub defines : Submodule w own (module_text compilation.modules.items inner) key at (module_item attributes line)
    pub public : is_public compilation inner ≡ not (private_said attributes (module_text compilation.modules.items inner))

  -- the name that is listed
  name_is : (inner : ℕ) → module_name compilation inner ≡ module_text compilation.modules.items inner
  name_is inner = by_node (slice_get compilation.modules.items inner)
    where
      by_node : (o : Option ModuleNode) → name_of o ≡ text_of (option_and_then (λ (x : ModuleNode). x.name) o)
      by_node None = refl
      by_node (Some x) = refl

  abbrev Inside : NodeView → Option ℕ → Type 0
  Inside view parent = HasItem w (views w compilation) (nodes w compilation) view parent

  shown : (n inner : ℕ) → slice_get node.submodules.items n ≡ Some inner → IsShown inner
  shown n inner e =
      let l = listed w compilation is k node here n inner e in
      let h : Inside (node_view l.node) (Some k) = subst (Inside (node_view l.node)) l.parent (node_is w compilation is inner l.node l.here).item in
      let same : h.0 ≡ node_view node = same_Some h.0 (node_view node) (sym h.1 ∙ mapped node_view compilation.modules.items k node here) in
      let inside : IsInside w (views w compilation) (nodes w compilation) (node_view l.node) (node_view node) = subst (IsInside w (views w compilation) (nodes w compilation) (node_view l.node)) same h.2 in
      let says = at_says inside.place inside.key inside.at (module_item inside.attributes inside.line) inside.there in
      let i = item_there w compilation (node_view node) inside.place inside.key inside.at (module_item inside.attributes inside.line) inside.there in
      let m = module_shaped i.0 inside.attributes inside.line i.2 in
      let named : inside.line.name ≡ module_text compilation.modules.items inner = same_Some inside.line.name (module_text compilation.modules.items inner) (sym inside.named ∙ l.named) in
      let held : module_attributes compilation inner ≡ Some (attributes_in m.0.attributes) =
      ap (node_attributes compilation) l.here ∙ ap (attributes_at compilation) inside.is ∙ ap attributes_of (i.1 ∙ ap (λ x. Some x) m.1) in
      record {
        key = inside.key;
        at = inside.at;
        attributes = inside.attributes;
        line = inside.line;
        defines = defines_here w own (module_text compilation.modules.items inner) inside.key inside.at inside.attributes inside.line says.0 says.1 inside.enabled_here named l.node.source.now inside.means;
        public =
            ap (λ t. is_open t (module_attributes compilation inner)) (name_is inner)
            ∙ ap (is_open (module_text compilation.modules.items inner)) held
            ∙ ap not (private_is (module_text compilation.modules.items inner) (attributes_in m.0.attributes) ∙ ap (λ xs. private_said xs (module_text compilation.modules.items inner)) m.2);
      }

  abbrev pub names_here : List Text
  names_here = map (module_name compilation) (filter (is_public compilation) node.submodules.items)

  -- the item of a submodule that is named says what the list's item says
  same_attributes : (inner : ℕ) (s : IsShown inner) (name file key : Text) → module_text compilation.modules.items inner ≡ name → IsFileOf w own file → (t : IsSubmodule w file name key) → s.attributes ≡ t.has.attributes
  same_attributes inner s name file key named of t =
      let d = subst (λ q. Submodule w own q s.key s.at (module_item s.attributes s.line)) named s.defines in
      let d' = defines_here w own name file t.place t.has.attributes t.line of t.has.has t.has.enabled t.is_named key t.means in
      let items = one_item w own name (single k node here a_submodule name refl) s.key file s.at t.place (module_item s.attributes s.line) (module_item t.has.attributes t.line) d d' in
      cc items

  not_true : (b : Bool) → not b ≡ true → b ≡ false
  not_true true e = sym e
  not_true false e = refl

  to_world : (name : Text) → Contains names_here name → IsOfferedModule w own name
  to_world name c =
      let m = made_back (module_name compilation) (filter (is_public compilation) node.submodules.items) name c in
      let f = filter_back (is_public compilation) node.submodules.items m.0 m.1 in
      let p = place_of node.submodules.items m.0 f.0 in
      let s = shown p.0 m.0 p.1 in
      let named : module_text compilation.modules.items m.0 ≡ name = sym (name_is m.0) ∙ m.2 in
      by_found m.0 p.0 p.1 s named f.1 (submodule_in compilation.modules.items k name) refl (submodules_are_found w compilation is single k node here name)
    where
      by_found : (inner n : ℕ) → slice_get node.submodules.items n ≡ Some inner → (s : IsShown inner) → module_text compilation.modules.items inner ≡ name → is_public compilation inner ≡ true
          → (found : Option ℕ) → submodule_in compilation.modules.items k name ≡ found → IsSubmoduleOf w compilation k node name (submodule_in compilation.modules.items k name) → IsOfferedModule w own name
      by_found inner n e s named public None none h =
          let l = listed w compilation is k node here n inner e in
          absurd (none_inside w compilation is k node here name none inner l.node l.here l.parent (l.named ∙ ap (λ (t : Text). Some t) named))
      by_found inner n e s named public (Some other) some h =
          let q = subst (IsSubmoduleOf w compilation k node name) some h in
          record {
            file = q.1.file;
            key = q.0.source.now;
            of = q.1.of;
            is = q.1.is;
            shown =
                ap (λ xs. private_said xs name) (sym (same_attributes inner s name q.1.file q.0.source.now named q.1.of q.1.is))
                ∙ ap (private_said s.attributes) (sym named)
                ∙ not_true (private_said s.attributes (module_text compilation.modules.items inner)) (sym s.public ∙ public);
          }

  from_world : (name : Text) → IsOfferedModule w own name → Contains names_here name
  from_world name h = by_found (submodule_in compilation.modules.items k name) refl (submodules_are_found w compilation is single k node here name)
    where
      by_found : (o : Option ℕ) → submodule_in compilation.modules.items k name ≡ o → IsSubmoduleOf w compilation k node name (submodule_in compilation.modules.items k name) → Contains names_here name
      by_found None none q = absurd (subst (IsSubmoduleOf w compilation k node name) none q h.file h.key h.of h.is)
      by_found (Some inner) some q =
          let f = found w compilation is k node here name inner some in
          let s = shown f.n inner f.at in
          let public : is_public compilation inner ≡ true =
          s.public ∙ ap not (ap (private_said s.attributes) f.text ∙ ap (λ xs. private_said xs name) (same_attributes inner s name h.file h.key f.text h.of h.is) ∙ h.shown) in
          let c = filter_there (is_public compilation) node.submodules.items inner (contains_at node.submodules.items f.n inner f.at) public in
          subst (Contains names_here) (name_is inner ∙ f.text) (made_there (module_name compilation) (filter (is_public compilation) node.submodules.items) inner c)

  -- these are the submodules that the module offers in the world
  pub are_offered : AreOfferedModules w own names_here
  are_offered = record {
    sorted =
        subst (λ xs. IsStrictlySortedBy text_cmp (map (module_name compilation) xs)) (as_given (is_public compilation) node.submodules.items)
        (sorted_given (if_passes (is_public compilation)) (module_text compilation.modules.items) (module_name compilation) node.submodules.items
        (λ x y c e. ap (module_name compilation) (given_self (is_public compilation) x y e) ∙ name_is x)
        (subst (IsStrictlySortedBy text_cmp) (names_are w compilation is k node here) (inner_lists w compilation is k node here).sorted));
    each = λ name. (to_world name, from_world name);
  }
