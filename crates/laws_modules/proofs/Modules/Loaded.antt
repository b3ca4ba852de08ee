-- The modules that are loaded are those of the world.
use Rattle.std.proofs.Common.{◌≡◌, sym, ◌∙◌, ap, subst, inl, inr, ◌<◌, ◌≤◌, ◌+◌, ◌-◌, ◌++◌, ◌∷◌, [], ℕ, suc, List, Some, arith}
use Rattle.std.specs.Prelude.{slice_get, option_map}
use Rattle.std.specs.BTreeMap.{BTreeMap}
use Rattle.std.specs.declared.string.String.{String}
use Rattle.std.proofs.lemmas.Option.{none-some, same_Some}
use Rattle.tree_items.specs.Files.{item_shapes}
use Rattle.modules_compilation.specs.Places.{items_of}
use Rattle.modules_compilation.specs.declared.compilation.Compilation.{Compilation}
use Rattle.modules_compilation.specs.declared.module_node.File.{File}
use Rattle.modules_compilation.specs.declared.module_node.ModuleNode.{ModuleNode}
use Rattle.modules_sources.specs.Items.{key_of}
use Rattle.modules_sources.specs.Loaded.{files_of, IsKnown}
use Rattle.modules_sources.specs.Submodules.{AreFound, Found, waiting}
use Rattle.meaning_rules.specs.Worlds.Given.{Text, World, filled}
use Rattle.meaning_rules.specs.Worlds.Sources.{AreSaid, HasModule, imported, IsFileOf, IsSubmodule, MayMean, Reached, root as root_reached, submodule, further, itself}
use Rattle.meaning_rules.specs.Worlds.Modules.{IsModule, root as root_module, inside as inside_module}
use Rattle.meaning_rules.specs.Worlds.Compiled.{root as root_path, inside as inside_path}
use Rattle.meaning_rules.proofs.Worlds.Places.{place_of}
use Rattle.meaning_rules.proofs.Worlds.Reading.{orders_have_reached}
use Rattle.laws_modules.specs.Files.Files.{AreFiles, keys_of}
use Rattle.laws_modules.specs.Files.Laws.{LoadedAreFiles}
use Rattle.meaning_rules.specs.Worlds.Views.{name_text, node_view}
use Rattle.laws_modules.specs.Submodules.Submodules.{FoundAreSubmodules, IsFoundFor}
use Rattle.laws_modules.specs.Modules.Laws.{IsLoaded}
use Rattle.laws_modules.specs.Modules.Modules.{AreModules, HasPlace, IsModuleAt, IsPath}
use Rattle.laws_modules.proofs.Modules.Started.{AreStarted, each_here as each_started, has_file as file_of, HasFile as HasFileOf}
use Rattle.laws_modules.proofs.Modules.Ranges.{file_of_key, from_range, mapped}
use Rattle.laws_modules.proofs.Modules.Waiting.{waits_of}

module _ {Y Z : Type 0} (sources : BTreeMap (String Y) (String Z)) (files_law : LoadedAreFiles sources) (submodules_law : FoundAreSubmodules sources) (w : World) (compilation : Compilation) (h : IsLoaded sources w compilation) where
  abbrev files : List File
  files = compilation.files.items

  abbrev modules : List ModuleNode
  modules = compilation.modules.items

  -- they are loaded so far, and none waits
  abbrev pub started : AreStarted sources w files modules
  started = record {
    os = h.os;
    expansion = h.expansion;
    version = h.version;
    root = h.root;
    start = h.start;
    has = h.has;
    same_os = h.same_os;
    same_root = h.same_root;
    said = h.said;
    has_root = h.are.root;
    all = h.are.modules;
    lookup = h.are.lookup;
    looks_up = h.are.looks_up;
    below = h.are.linked.below;
  }

  -- a file of a module, and its submodules
  abbrev pub HasFile : ℕ → ModuleNode → ℕ → Type 0
  HasFile = HasFileOf sources files_law submodules_law w files modules started

  pub has_file : (k : ℕ) (node : ModuleNode) → slice_get modules k ≡ Some node → AreFiles w k node.source.now (files_of files node) → (n : ℕ) → node.first_file ≤ n → n < node.end_file → HasFile k node n
  has_file = file_of sources files_law submodules_law w files modules started

  pub each_here : (k : ℕ) (node : ModuleNode) → slice_get modules k ≡ Some node → IsModuleAt w files modules k node
  each_here = each_started sources files_law submodules_law w files modules started

  -- a file of a module of the world stands among those of its node
  pub record HasFileAt (k : ℕ) (node : ModuleNode) (key : Text) : Type 0 where
    pub n : ℕ
    pub from : node.first_file ≤ n
    pub to : n < node.end_file
    pub has : HasFile k node n
    pub same : has.file.key.now ≡ key

  pub file_at_key : (k : ℕ) (node : ModuleNode) → slice_get modules k ≡ Some node → (key : Text) → IsFileOf w node.source.now key → HasFileAt k node key
  file_at_key k node e key of =
      let so = (each_here k node e).own_files in
      let c = (orders_have_reached w node.source.now (keys_of (files_of files node)) so.order key).1 of in
      let at = place_of (keys_of (files_of files node)) key c in
      let f = file_of_key (files_of files node) at.0 key at.1 in
      let r = from_range node.first_file node.end_file files at.0 f.0 f.1 in
      let has = has_file k node e so (node.first_file + at.0) (omega arith) r.1 in
      record { n = node.first_file + at.0; from = omega arith; to = r.1; has = has; same = ap (λ x. x.key.now) (same_Some has.file f.0 (sym has.there ∙ r.0)) ∙ f.2 }

  -- a module of the world stands below the one at a place
  pub record HasChild (k : ℕ) (path : List Text) (key : Text) : Type 0 where
    pub place : HasPlace w files modules path key
    pub parent : place.node.parent ≡ Some k

  -- a submodule of the world's file is loaded
  pub inner_child : (path : List Text) (k : ℕ) (node : ModuleNode) → slice_get modules k ≡ Some node → IsPath w files modules k path → (file name key : Text) → IsFileOf w node.source.now file → IsSubmodule w file name key → HasChild k (path ++ name ∷ []) key
  inner_child path k node e has_path file name key of sub =
      let at = file_at_key k node e file of in
      let followed = h.are.followed k node e in
      let from = at.from in
      let to = at.to in
      let n = at.n in
      let waits = waits_of h.are.lookup h.os files followed.above k node.first_file followed.are (at.n - node.first_file) (omega (arith, from, to)) in
      let same : node.first_file + (at.n - node.first_file) ≡ at.n = omega (arith, from) in
      let are = subst (λ m. AreFound h.are.lookup h.os (key_of (slice_get files m)) (items_of (slice_get files m)) waits.found) same waits.are.found_all in
      let s = (at.has.submodules waits.found are).complete sub.place sub.line key (subst (λ f. HasModule w f sub.place sub.line) (sym at.same) sub.has) (subst (λ f. MayMean w f sub.line key) (sym at.same) sub.means) in
      let j = waits.each s.i s.f s.at in
      loaded_place s (node.first_file + (at.n - node.first_file)) (followed.known j.0 (waiting (node.first_file + (at.n - node.first_file)) k s.f) j.1)
    where
      loaded_place : {items : List _} {found : List Found} {at : Text} (s : IsFoundFor w at items found sub.place sub.line key) (m : ℕ) → IsKnown modules [] (waiting m k s.f) → HasChild k (path ++ name ∷ []) key
      loaded_place s m (inl (i, there)) = absurd (none-some _ there)
      loaded_place s m (inr (place, inner, there, loaded)) = record {
        place = record {
          k = place;
          node = inner;
          there = there;
          source = loaded.source ∙ s.file;
          has_path = inside_path (mapped node_view modules place inner there) loaded.parent ((h.are.modules place inner there).parent k loaded.parent) (ap (option_map name_text) loaded.name ∙ ap Some (sym s.named ∙ sub.is_named)) has_path;
        };
        parent = loaded.parent;
      }

  pub complete : (path : List Text) (own : Text) → IsModule w path own → HasPlace w files modules path own
  complete _ _ root_module =
      let root = h.are.root in
      record { k = 0; node = root.node; there = root.first; source = root.source ∙ sym h.same_root; has_path = root_path (mapped node_view modules 0 root.node root.first) root.parent }
  complete _ _ (inside_module {path} {own} {file} {name} {key} is of sub) =
      let r = complete path own is in
      (inner_child path r.k r.node r.there r.has_path file name key (subst (λ o. IsFileOf w o file) (sym r.source) of) sub).place

  pub loaded_are_modules : AreModules w files modules
  loaded_are_modules = record { each = each_here; complete = complete }

  -- a file that is reached is one of a module
  pub of_module : (key : Text) → Reached w key → (path : List Text) × (own : Text) × IsModule w path own × IsFileOf w own key
  of_module _ root_reached = ([], w.root, root_module, record { count = 0; leads = itself })
  of_module _ (imported {file} {other} reached imports) =
      let r = of_module file reached in
      (r.0, r.1, r.2, record { count = suc r.3.count; leads = further r.3.leads imports })
  of_module _ (submodule {file} {name} {other} reached sub) =
      let r = of_module file reached in
      (r.0 ++ name ∷ [], other, inside_module r.2 r.3 sub, record { count = 0; leads = itself })

  pub all_said : AreSaid w
  all_said key reached =
      let r = of_module key reached in
      let p = complete r.0 r.1 r.2 in
      let at = file_at_key p.k p.node p.there key (subst (λ o. IsFileOf w o key) (sym p.source) r.3) in
      (filled (item_shapes at.has.file.ast.items.items), subst (λ f. w.said f ≡ Some (filled (item_shapes at.has.file.ast.items.items))) at.same at.has.is.says)
