-- The submodules of a module that is loaded are those that its files have.
use Rattle.std.proofs.Common.{◌≡◌, sym, ◌∙◌, ap, subst, inl, inr, ◌<◌, ◌≤◌, ◌+◌, ◌-◌, [], ℕ, zero, suc, List, Option, Some, None, false, refl, arith, length, take}
use Rattle.std.specs.Prelude.{slice_get, option_map, Contains}
use Rattle.std.specs.BTreeMap.{BTreeMap}
use Rattle.std.specs.declared.string.String.{String}
use Rattle.std.proofs.lemmas.Bool.Decides.{eqb_tells, leb_tells}
use Rattle.std.proofs.lemmas.Option.{none-some, same_Some}
use Rattle.tree_items.specs.Files.{ItemShape, is_blank, item_shapes, module_item}
use Rattle.tree_items.specs.Items.{ModuleShape}
use Rattle.modules_compilation.specs.Places.{items_of}
use Rattle.modules_compilation.specs.declared.compilation.Compilation.{Compilation}
use Rattle.modules_compilation.specs.declared.module_node.File.{File}
use Rattle.modules_compilation.specs.declared.module_node.ModuleNode.{ModuleNode}
use Rattle.modules_compilation.specs.declared.place.Place.{Place}
use Rattle.std.specs.Option.{option_and_then}
use Rattle.just_text.specs.declared.name.Name.{Name}
use Rattle.modules_definitions.specs.Defining.{named_at, submodule_at}
use Rattle.modules_definitions.specs.Gathering.{HaveOwnItems}
use Rattle.modules_sources.specs.Items.{key_of}
use Rattle.modules_sources.specs.Loaded.{IsKnown}
use Rattle.modules_sources.specs.Submodules.{AreFound, Found, waiting}
use Rattle.meaning_rules.specs.Worlds.Given.{Text, World, filled}
use Rattle.meaning_rules.specs.Worlds.Sources.{HasModule, MayMean}
use Rattle.meaning_rules.proofs.Worlds.Places.{contains_at, place_of}
use Rattle.laws_modules.specs.Files.Laws.{LoadedAreFiles}
use Rattle.laws_modules.specs.Submodules.Submodules.{FoundAreSubmodules}
use Rattle.laws_modules.proofs.Submodules.Ranks.{rank_of}
use Rattle.laws_modules.specs.Definitions.Nodes.{AreInnerModules, HasModuleAt, IsInnerAt, IsOfModule}
use Rattle.laws_modules.proofs.Definitions.Standing.{filled_less}
use Rattle.laws_modules.specs.Modules.Laws.{IsLoaded}
use Rattle.laws_modules.proofs.Modules.Loaded.{each_here, has_file}
use Rattle.laws_modules.proofs.Modules.Waiting.{waits_of}

-- items that are not blank are told apart by their ranks
rank_once : (items : List ItemShape) (i j : ℕ) (x y : ItemShape) → slice_get items i ≡ Some x → is_blank x ≡ false → slice_get items j ≡ Some y → is_blank y ≡ false → length (filled (take i items)) ≡ length (filled (take j items)) → i ≡ j
rank_once items i j x y e no_blank f no_blank' same = elim (eqb_tells i j) [
  | inl p ↦ p.1
  | inr p ↦ elim (leb_tells i j) [
    | inl q ↦
        let apart = p.1 in
        let lt = filled_less items i j x (below i j apart q.1) e no_blank in
        absurd (omega (arith, lt, same))
    | inr q ↦ let lt = filled_less items j i y q.1 f no_blank' in absurd (omega (arith, lt, same))
  ]
]
  where
    below : (a b : ℕ) → (a ≡ b → ⊥) → a ≤ b → a < b
    below zero zero apart le = absurd (apart refl)
    below zero (suc b) apart le = omega arith
    below (suc a) zero apart le = absurd (omega (arith, le))
    below (suc a) (suc b) apart le = let lt = below a b (λ s. apart (ap suc s)) (omega (arith, le)) in omega (arith, lt)

abbrev with_place : Place → Name → Name × Place
with_place p x = (x, p)

abbrev by_place : List File → Place → Option (Name × Place)
by_place files p = option_map (with_place p) (named_at files p)

abbrev by_node : List File → ModuleNode → Option (Name × Place)
by_node files m = option_and_then (by_place files) m.item

-- a submodule that has a name at a place has its item there
pub item_there : (files : List File) (modules : List ModuleNode) (n : ℕ) (node : ModuleNode) (name : Name) (place : Place) → slice_get modules n ≡ Some node → submodule_at files modules n ≡ Some (name, place) → (node.item ≡ Some place) × (named_at files place ≡ Some name)
item_there files modules n node name place there at = by_item node.item refl (sym (ap (option_and_then (by_node files)) there) ∙ at)
  where
    by_name : (p : Place) (o : Option Name) → node.item ≡ Some p → named_at files p ≡ o → option_map (with_place p) o ≡ Some (name, place) → (node.item ≡ Some place) × (named_at files place ≡ Some name)
    by_name p None here is e = absurd (none-some (name, place) e)
    by_name p (Some x) here is e =
        let same = same_Some (with_place p x) (name, place) e in
        (here ∙ ap (λ q. Some q.1) same, ap (λ q. named_at files q.1) (sym same) ∙ is ∙ ap (λ q. Some q.0) same)

    by_item : (o : Option Place) → node.item ≡ o → option_and_then (by_place files) node.item ≡ Some (name, place) → (node.item ≡ Some place) × (named_at files place ≡ Some name)
    by_item None here e = absurd (none-some (name, place) (sym (ap (option_and_then (by_place files)) here) ∙ e))
    by_item (Some p) here e = by_name p (named_at files p) here refl (sym (ap (option_and_then (by_place files)) here) ∙ e)

module _ {Y Z : Type 0} (sources : BTreeMap (String Y) (String Z)) (files_law : LoadedAreFiles sources) (submodules_law : FoundAreSubmodules sources) (w : World) (compilation : Compilation) (h : IsLoaded sources w compilation) where
  abbrev files : List File
  files = compilation.files.items

  abbrev modules : List ModuleNode
  modules = compilation.modules.items

  module _ (k : ℕ) (node : ModuleNode) (e : slice_get modules k ≡ Some node) where
    -- a submodule that the module lists
    record IsListed (inner : ℕ) : Type 0 where
      submodule : ModuleNode
      there : slice_get modules inner ≡ Some submodule
      parent : submodule.parent ≡ Some k
      place : Place
      is : submodule.item ≡ Some place
      of : IsOfModule w files node submodule place

    -- each has the item that a file of the module has
    listed_at : (inner : ℕ) (submodule : ModuleNode) → slice_get modules inner ≡ Some submodule → submodule.parent ≡ Some k → IsListed inner
    listed_at zero submodule there parent = absurd (none-some k (sym h.are.root.parent ∙ ap (λ n. n.parent) (same_Some h.are.root.node submodule (sym h.are.root.first ∙ there)) ∙ parent))
    listed_at (suc inner) submodule there parent =
        let b = h.are.linked.below inner submodule there in
        let s = b.is in
        let own : s.place ≡ k = same_Some s.place k (sym (b.loaded.parent ∙ ap (λ v. v.parent) s.is) ∙ parent) in
        let same : s.node ≡ node = same_Some s.node node (sym s.there ∙ ap (slice_get modules) own ∙ e) in
        let from = subst (λ n. n.first_file ≤ s.file) same s.from in
        let to = subst (λ n. s.file < n.end_file) same s.to in
        let f = has_file sources files_law submodules_law w compilation h k node e (each_here sources files_law submodules_law w compilation h k node e).own_files s.file from to in
        let found = (f.submodules s.found s.are).sound s.i s.one s.found_at in
        record {
          submodule = submodule;
          there = there;
          parent = parent;
          place = record { file = s.file; item = s.one.item };
          is = b.loaded.item ∙ ap (λ v. v.item) s.is;
          of = record {
            file = f.file;
            line = found.is.line;
            has = record { from = from; to = to; found = f.there; attributes = found.attributes; there = found.there; enabled_here = found.enabled_here };
            means = subst (MayMean w f.file.key.now found.is.line) (sym (b.loaded.source ∙ ap (λ v. v.file.0) s.is)) found.is.means;
          };
        }

    listed : (inner : ℕ) → Contains node.submodules.items inner → IsListed inner
    listed inner c =
        let at = place_of node.submodules.items inner c in
        let t = (h.are.followed k node e).inner.only at.0 inner at.1 in
        listed_at inner t.0 t.1 t.2

    -- each item that may mean a file has a submodule
    complete : (place : Place) (file : File) (m : ModuleShape) (key : Text) → HasModuleAt w files node place file m → MayMean w file.key.now m key → (inner : ℕ) × (submodule : ModuleNode) × IsInnerAt w files node modules inner submodule place
    complete place file m key has means =
        let followed = h.are.followed k node e in
        let f = has_file sources files_law submodules_law w compilation h k node e (each_here sources files_law submodules_law w compilation h k node e).own_files place.file has.from has.to in
        let same_file : f.file ≡ file = same_Some f.file file (sym f.there ∙ has.found) in
        let there = subst (λ x. slice_get (item_shapes x.ast.items.items) place.item ≡ Some (module_item has.attributes m)) (sym same_file) has.there in
        let meant = subst (λ x. MayMean w x.key.now m key) (sym same_file) means in
        let items = item_shapes f.file.ast.items.items in
        let from = has.from in
        let to = has.to in
        let waits = waits_of h.are.lookup h.os files followed.above k node.first_file followed.are (place.file - node.first_file) (omega (arith, from, to)) in
        let at : node.first_file + (place.file - node.first_file) ≡ place.file = omega (arith, from) in
        let are = subst (λ n. AreFound h.are.lookup h.os (key_of (slice_get files n)) (items_of (slice_get files n)) waits.found) at waits.are.found_all in
        let all = f.submodules waits.found are in
        let module_there : HasModule w f.file.key.now (length (filled (take place.item items))) m = record {
          attributes = has.attributes;
          has = record { items = filled items; says = f.is.says; at = rank_of items place.item (module_item has.attributes m) there refl };
          enabled = has.enabled_here;
        } in
        let s = all.complete (length (filled (take place.item items))) m key module_there meant in
        let g = all.sound s.i s.f s.at in
        let item : s.f.item ≡ place.item = rank_once items s.f.item place.item (module_item g.attributes g.is.line) (module_item has.attributes m) g.there refl there refl s.rank in
        let j = waits.each s.i s.f s.at in
        by_known s.f item at (followed.known j.0 (waiting (node.first_file + (place.file - node.first_file)) k s.f) j.1)
      where
        by_known : (f : Found) → f.item ≡ place.item → node.first_file + (place.file - node.first_file) ≡ place.file → IsKnown modules [] (waiting (node.first_file + (place.file - node.first_file)) k f) → (inner : ℕ) × (submodule : ModuleNode) × IsInnerAt w files node modules inner submodule place
        by_known f item at (inl (i, there)) = absurd (none-some _ there)
        by_known f item at (inr (inner, submodule, there, loaded)) =
            let c = (h.are.followed k node e).inner.listed inner submodule there loaded.parent in (
              inner,
              submodule,
              record {
                listed = contains_at node.submodules.items c.0 inner c.1;
                found = there;
                is = loaded.item ∙ ap (λ n. Some (record { file = n; item = f.item })) at ∙ ap (λ n. Some (record { file = place.file; item = n })) item;
              },
            )

    pub inner_modules : AreInnerModules w files node modules
    inner_modules = record {
      sound = λ inner c. let l = listed inner c in (l.submodule, l.place, record { listed = c; found = l.there; is = l.is }, l.of);
      complete = complete;
    }

    -- no two of them have one item
    pub own_items : HaveOwnItems files modules node.submodules.items
    own_items i j inner other place at at' item item' =
        let followed = h.are.followed k node e in
        let a = followed.inner.only i inner at in
        let b = followed.inner.only j other at' in
        let same = h.are.linked.once inner other a.0 b.0 place a.1 b.1 (item_there files modules inner a.0 item.0 place a.1 item.1).0 (item_there files modules other b.0 item'.0 place b.1 item'.1).0 in
        followed.inner.once i j inner at (at' ∙ ap Some (sym same))
