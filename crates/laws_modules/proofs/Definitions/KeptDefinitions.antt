-- What is kept of a module's definitions is what it keeps in the world.
use Rattle.std.proofs.Common.{◌≡◌, ◌≢◌, inl, inr, sym, ◌∙◌, ap, ap₂, subst, Bool, true, false, ◌&&◌, eqb, List, ℕ, ◌-◌, ◌≤◌, Option, Some, None, refl, arith, drop, take}
use Rattle.std.specs.Prelude.{Contains, if◌then◌else◌, slice_get}
use Rattle.std.proofs.lemmas.Bool.Decides.{eqb_tells, leb_tells}
use Rattle.std.proofs.lemmas.Option.{none-some, same_Some}
use Rattle.just_text.specs.declared.os.Os.{Os}
use Rattle.tree_items.specs.Files.{ItemShape, recipe_item}
use Rattle.modules_compilation.specs.declared.module_node.File.{File}
use Rattle.modules_compilation.specs.declared.module_node.ModuleNode.{ModuleNode}
use Rattle.modules_compilation.specs.declared.place.Place.{Place}
use Rattle.modules_definitions.specs.Defining.{space_of as found_space}
use Rattle.modules_definitions.specs.Keeping.{AreInOrder, AreKept, IsKept, ShareName}
use Rattle.modules_definitions.specs.declared.definition.Definition.{Definition}
use Rattle.modules_definitions.proofs.Elements.{contains_at, place_of}
use Rattle.modules_definitions.proofs.Orders.{any_behind, later_item, share_back}
use Rattle.meaning_rules.specs.Worlds.Given.{Text, World}
use Rattle.meaning_rules.specs.Worlds.Sources.{enabled}
use Rattle.meaning_rules.specs.Worlds.Keeping.{Defines, KeepsAt, Kind, a_recipe, defined_by, space_of}
use Rattle.meaning_rules.specs.Worlds.Compiled.{NodeView}
use Rattle.meaning_rules.proofs.Worlds.Reading.{orders_are_unique, orders_have_once}
use Rattle.laws_modules.specs.Files.Files.{keys_of}
use Rattle.laws_modules.specs.Definitions.Kinds.{kind_of}
use Rattle.laws_modules.specs.Definitions.Nodes.{AreFound, IsHere}
use Rattle.laws_modules.specs.Definitions.Laws.{AreMeant, AreOfOneKind, IsAmong, KeepsHere, KeptAreMeant, MeantAreKept}
use Rattle.laws_modules.proofs.Definitions.Defined.{definitions_are_meant}
use Rattle.laws_modules.proofs.Definitions.Lists.{last_of}
use Rattle.laws_modules.proofs.Definitions.Spaces.{kind_or_disabled, spaces_agree, told_apart}
use Rattle.laws_modules.proofs.Definitions.Standing.{Placed, as_placed, key_place, lower_rank, one_file, one_item, rank_at_most, same_key}

-- no later in a list of numbers less another
no_later : (a p q i : ℕ) → i ≡ q - a → a ≤ p → a ≤ q → p ≤ q → p - a ≤ i
no_later a p q i e le less more = omega (arith, e, le, less, more)

files_no_later : (a p q i : ℕ) → i ≤ q - a → i ≡ p - a → a ≤ p → a ≤ q → p ≤ q
files_no_later a p q i le e f g = omega (arith, le, e, f, g)

-- a place's test
abbrev at_place : Place → Definition → Bool
at_place place d = eqb d.place.file place.file && eqb d.place.item place.item

both : (a b : Bool) → (a && b) ≡ true → (a ≡ true) × (b ≡ true)
both true b e = (refl, e)
both false b e = absurd (cc e)

eqb_true : (m n : ℕ) → eqb m n ≡ true → m ≡ n
eqb_true m n e = elim (eqb_tells m n) [ inl p ↦ p.1 | inr p ↦ absurd (let f : true ≡ false = sym e ∙ p.0 in cc f) ]

true_eqb : (m n : ℕ) → m ≡ n → eqb m n ≡ true
true_eqb m n e = elim (eqb_tells m n) [ inl p ↦ p.0 | inr p ↦ absurd (p.1 e) ]

test_place : (place : Place) (d : Definition) → at_place place d ≡ true → d.place ≡ place
test_place place d e =
    let p = both (eqb d.place.file place.file) (eqb d.place.item place.item) e in
    ap₂ (λ file item. record { file = file; item = item }) (eqb_true d.place.file place.file p.0) (eqb_true d.place.item place.item p.1)

place_test : (place : Place) (d : Definition) → d.place.file ≡ place.file → d.place.item ≡ place.item → at_place place d ≡ true
place_test place d e f = ap₂ (λ a b. a && b) (true_eqb d.place.file place.file e) (true_eqb d.place.item place.item f)

-- what a recipe defines, if it is enabled
abbrev recipe_if : Bool → Text → Option (Kind × Text)
recipe_if on name = if on then Some (a_recipe, name) else None

module _ (w : World) (os : Os) (files : List File) (modules : List ModuleNode) (nodes : List NodeView) (k : ℕ) (node : ModuleNode) (ds : List Definition) (found : AreFound w files node modules os k ds) where
  meant : AreMeant w files node nodes ds
  meant = definitions_are_meant w os files modules nodes k node ds found

  abbrev own_keys : List Text
  own_keys = keys_of (drop node.first_file (take node.end_file files))

  placed : (place : Place) (key : Text) (at : ℕ) (item : ItemShape) → IsHere w files node nodes place key at item → Placed files node place key at item
  placed place key at item h = as_placed w files nodes node place key at item h

  space_here : (d : Definition) → Contains ds d → d.space ≡ found_space d.kind
  space_here d c = (found.are.sound d c).1.space_is

  pub shares : (e d : Definition) (kind other : Kind) → Contains ds e → Contains ds d → kind_of e.kind ≡ Some kind → kind_of d.kind ≡ Some other → space_of kind ≡ space_of other → e.text.now ≡ d.text.now → ShareName e d
  shares e d kind other ce cd ke kd same text = record {
    space = space_here e ce ∙ spaces_agree e.kind d.kind kind other ke kd same ∙ sym (space_here d cd);
    text = text;
    told_apart = λ off. told_apart e.kind kind ke (sym (space_here e ce) ∙ off);
  }

  -- the reading order has a file at its place
  read_at : (place : Place) (key : Text) (at : ℕ) (item : ItemShape) → Placed files node place key at item → slice_get own_keys (place.file - node.first_file) ≡ Some key
  read_at place key at item p = key_place w files node k found.agrees.own_files place key at item p

  read_once : (i j : ℕ) (key : Text) → slice_get own_keys i ≡ Some key → slice_get own_keys j ≡ Some key → i ≡ j
  read_once i j key = orders_have_once w node.source.now own_keys found.agrees.own_files.order i j key

  module _ (order : AreInOrder ds) where
    -- of two of a name in one file the one in front stands no later
    in_front : (i j : ℕ) (a b : Definition) → i ≤ j → slice_get ds i ≡ Some a → slice_get ds j ≡ Some b → ShareName a b → a.place.file ≡ b.place.file → a.place.item ≤ b.place.item
    in_front i j a b le e f s same = elim (eqb_tells i j) [
      | inl p ↦ let one = ap (λ (d : Definition). d.place.item) (same_Some a b (sym e ∙ ap (slice_get ds) p.1 ∙ f)) in omega (arith, one)
      | inr p ↦ let ne : i ≢ j = p.1 in later_item a b (any_behind ds order i j a b (omega (arith, le, ne)) e f) s same
    ]

    keeps_here : (d : Definition) (kind : Kind) → IsKept ds d → Contains ds d → kind_of d.kind ≡ Some kind → KeepsHere w files node nodes kind d.text.now d.place
    keeps_here d kind h c is =
        let s = meant.sound d kind c is in
        let key = s.key in
        let p = placed d.place key s.at s.item s.there in
        record {
          key = key;
          at = s.at;
          item = s.item;
          there = s.there;
          keeps = record {
            defines = s.defines;
            files = own_keys;
            order = found.agrees.own_files.order;
            at = d.place.file - node.first_file;
            found = read_at d.place key s.at s.item p;
            first = λ i key' at' item' e defines.
                let a = meant.complete kind d.text.now key' at' item' defines in
                let q = placed a.d.place key' at' item' a.there in
                let le = h.first a.d a.listed (shares a.d d kind kind a.listed c a.kind_is is refl a.text_is) in
                let one = read_once i (a.d.place.file - node.first_file) key' e (read_at a.d.place key' at' item' q) in
                no_later node.first_file d.place.file a.d.place.file i one p.from q.from le;
            last = λ at' item' defines.
                let a = meant.complete kind d.text.now key at' item' defines in
                let q = placed a.d.place key at' item' a.there in
                let same = one_file w files node k found.agrees.own_files a.d.place d.place key at' s.at item' s.item q p in
                let j = place_of ds a.d a.listed in
                let s' = shares a.d d kind kind a.listed c a.kind_is is refl a.text_is in
                let le = h.last j.0 a.d j.1 s' same in
                rank_at_most files node a.d.place d.place key key at' s.at item' s.item q p same (in_front j.0 h.at a.d d le j.1 h.found s' same);
          };
        }

    pub kept_sound : (kept : List Definition) → AreKept ds kept → (d : Definition) (kind : Kind) → Contains kept d → kind_of d.kind ≡ Some kind → KeepsHere w files node nodes kind d.text.now d.place
    kept_sound kept are d kind c is = let h = (are.each d).0 c in keeps_here d kind h (contains_at ds h.at d h.found) is

    -- ---- what the module keeps is kept

    -- no definition stands where another system disables a recipe
    off_defines : (b : Bool) (name : Text) (kind : Kind) (text : Text) → b ≡ false → recipe_if b name ≡ Some (kind, text) → ⊥
    off_defines true name kind text off e = cc off
    off_defines false name kind text off e = none-some (kind, text) e

    -- the definition at the place of another is of its kind and name
    same_place : (x : Definition) (place : Place) (key : Text) (at : ℕ) (item : ItemShape) (kind : Kind) (name : Text) → Contains ds x → x.place ≡ place → Placed files node place key at item
        → defined_by w.os item ≡ Some (kind, name) → (kind_of x.kind ≡ Some kind) × (x.text.now ≡ name)
    same_place x place key at item kind name c same p is = elim (kind_or_disabled x.kind) [
      | inl q ↦
          let s = meant.sound x q.0 c q.1 in
          let one = one_item files node x.place place s.key key s.at at s.item item (placed x.place s.key s.at s.item s.there) p same in
          let defs = same_Some (q.0, x.text.now) (kind, name) (sym s.defines.is ∙ ap (defined_by w.os) one ∙ is) in
          (q.1 ∙ ap (λ r. Some r.0) defs, ap (λ r. r.1) defs)
      | inr off ↦
          let s = meant.disabled x c off in
          let one = one_item files node x.place place s.0 key s.1 at (recipe_item s.2 s.3) item (placed x.place s.0 s.1 (recipe_item s.2 s.3) s.4) p same in
          absurd (off_defines (enabled w.os s.2) s.3.name kind name s.5.disabled (ap (defined_by w.os) one ∙ is))
    ]

    module _ (single : AreOfOneKind ds) (kind : Kind) (name key : Text) (at : ℕ) (item : ItemShape) (keeps : KeepsAt w node.source.now kind name key at item) where
      -- the last definition at a place that the module keeps is kept
      last_kept : (e x : Definition) (i : ℕ) → Placed files node e.place key at item → Contains ds x → x.place ≡ e.place → kind_of x.kind ≡ Some kind → x.text.now ≡ name → slice_get ds i ≡ Some x
          → ((j : ℕ) (y : Definition) → slice_get ds j ≡ Some y → at_place e.place y ≡ true → j ≤ i) → IsKept ds x
      last_kept e x i p c same is text f last = record {
        at = i;
        found = f;
        first = λ y cy s.
            let defs = meant.sound y kind cy (single y x cy c s ∙ is) in
            let q = placed y.place defs.key defs.at defs.item defs.there in
            let defines : Defines w node.source.now kind name defs.key defs.at defs.item = subst (λ t. Defines w node.source.now kind t defs.key defs.at defs.item) (s.text ∙ text) defs.defines in
            let orders : keeps.files ≡ own_keys = orders_are_unique w node.source.now keeps.files own_keys keeps.order found.agrees.own_files.order in
            let le = keeps.first (y.place.file - node.first_file) defs.key defs.at defs.item (ap (λ fs. slice_get fs (y.place.file - node.first_file)) orders ∙ read_at y.place defs.key defs.at defs.item q) defines in
            let one = read_once keeps.at (e.place.file - node.first_file) key (ap (λ fs. slice_get fs keeps.at) (sym orders) ∙ keeps.found) (read_at e.place key at item p) in
            let less = files_no_later node.first_file e.place.file y.place.file keeps.at le one p.from q.from in
            subst (λ (r : Place). r.file ≤ y.place.file) (sym same) less;
        last = λ j y g s there. elim (leb_tells j i) [
          | inl le ↦ le.1
          | inr more ↦
              let gt = more.1 in
              let cy = contains_at ds j y g in
              let defs = meant.sound y kind cy (single y x cy c s ∙ is) in
              let q = placed y.place defs.key defs.at defs.item defs.there in
              let there' : y.place.file ≡ e.place.file = there ∙ ap (λ (r : Place). r.file) same in
              let keys = same_key files node y.place e.place defs.key key defs.at at defs.item item q p there' in
              let named : Defines w node.source.now kind name defs.key defs.at defs.item = subst (λ t. Defines w node.source.now kind t defs.key defs.at defs.item) (s.text ∙ text) defs.defines in
              let defines : Defines w node.source.now kind name key defs.at defs.item = subst (λ t. Defines w node.source.now kind name t defs.at defs.item) keys named in
              let le = keeps.last defs.at defs.item defines in
              let behind = in_front i j x y (omega (arith, gt)) f g (share_back y x s) (sym there) in
              let items = ap (λ (r : Place). r.item) same in
              elim (eqb_tells y.place.item e.place.item) [
                | inl same' ↦ last j y g (place_test e.place y there' same'.1)
                | inr other ↦
                    let ne : y.place.item ≢ e.place.item = other.1 in
                    let lt = lower_rank files node e.place y.place key defs.key at defs.at item defs.item p q (sym there') (omega (arith, behind, items, ne)) in
                    absurd (omega (arith, lt, le))
              ]
        ];
      }

      pub kept_complete : (kept : List Definition) → AreKept ds kept → IsAmong w files node nodes kept kind name key at item
      kept_complete kept are =
          let a = meant.complete kind name key at item keeps.defines in
          let p = placed a.d.place key at item a.there in
          let l = last_of (at_place a.d.place) ds a.d a.listed (place_test a.d.place a.d refl refl) in
          let i = l.0 in
          let x = l.1 in
          let same = test_place a.d.place x l.2.passes in
          let c = contains_at ds i x l.2.found in
          let of = same_place x a.d.place key at item kind name c same p keeps.defines.is in
          record {
            d = x;
            listed = (are.each x).1 (last_kept a.d x i p c same of.0 of.1 l.2.found l.2.last);
            kind_is = of.0;
            text_is = of.1;
            there = subst (λ r. IsHere w files node nodes r key at item) (sym same) a.there;
          }

pub kept_are_meant : KeptAreMeant
kept_are_meant w os files modules nodes k node ds kept found order keeps d kind c is = kept_sound w os files modules nodes k node ds found order kept keeps d kind c is

pub meant_are_kept : MeantAreKept
meant_are_kept w os files modules nodes k node ds kept found order keeps single kind name key at item h = kept_complete w os files modules nodes k node ds found order single kind name key at item h kept keeps
