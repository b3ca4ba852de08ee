-- The modules that are loaded so far are modules of the world.
use Rattle.std.proofs.Common.{◌≡◌, sym, ◌∙◌, ap, subst, ◌<◌, ◌≤◌, ◌+◌, ◌-◌, ◌++◌, ◌∷◌, [], ℕ, zero, suc, List, Some, None, true, refl, arith, map}
use Rattle.std.specs.Prelude.{slice_get, option_map}
use Rattle.std.specs.BTreeMap.{BTreeMap}
use Rattle.std.specs.declared.string.String.{String}
use Rattle.std.proofs.lemmas.Option.{same_Some}
use Rattle.just_text.specs.Numbers.{Numbers}
use Rattle.just_text.specs.declared.os.Os.{Os}
use Rattle.tree_items.specs.Files.{item_shapes}
use Rattle.parse_expressions.specs.Literals.{Expansion}
use Rattle.semver.specs.declared.Version.{Version}
use Rattle.modules_compilation.specs.Places.{items_of}
use Rattle.modules_compilation.specs.declared.module_node.File.{File}
use Rattle.modules_compilation.specs.declared.module_node.ModuleNode.{ModuleNode}
use Rattle.modules_files.specs.declared.search.Files.{Files}
use Rattle.modules_sources.specs.Items.{key_of}
use Rattle.modules_sources.specs.Loaded.{AllLoaded, AllLoadedBelow, files_of, HasRoot, IsLoadedFor, IsLookupOf, IsSubmodule as IsSubmoduleOf}
use Rattle.modules_sources.specs.Submodules.{AreFound, Found, Waiting, waiting}
use Rattle.meaning_rules.specs.Worlds.Given.{Text, World}
use Rattle.meaning_rules.specs.Worlds.Sources.{MayMean, Reached, root as root_reached}
use Rattle.meaning_rules.specs.Worlds.Modules.{IsModule, root as root_module, inside as inside_module}
use Rattle.meaning_rules.specs.Worlds.Compiled.{HasItem, root as root_path, inside as inside_path}
use Rattle.meaning_rules.proofs.Worlds.Reached.{own_reached}
use Rattle.laws_modules.specs.Files.Files.{AreFiles, AreSaidWhereReached, IsFile}
use Rattle.laws_modules.specs.Files.Laws.{LoadedAreFiles}
use Rattle.meaning_rules.specs.Worlds.Views.{file_view, HasSources, name_text, node_view}
use Rattle.laws_modules.specs.Submodules.Submodules.{AreSubmodules, FoundAreSubmodules}
use Rattle.laws_modules.specs.Modules.Modules.{IsModuleAt}
use Rattle.laws_modules.proofs.Modules.Ranges.{in_range, mapped, there_within}
use Rattle.laws_modules.proofs.Modules.Said.{range_said}

-- Modules are loaded, the root's first and each other for a submodule of one of them; others may wait. Where the world reaches their files, they say what the world says.
pub record AreStarted {Y Z : Type 0} (sources : BTreeMap (String Y) (String Z)) (w : World) (files : List File) (modules : List ModuleNode) : Type 0 where
  pub os : Os
  pub expansion : Expansion
  pub version : Version
  pub root : Text
  pub start : Numbers
  pub has : HasSources sources expansion w
  pub same_os : w.os ≡ os
  pub same_root : w.root ≡ root
  pub said : AreSaidWhereReached w files
  pub has_root : HasRoot root modules
  pub all : AllLoaded sources expansion version os start true files modules
  pub lookup : Files
  pub looks_up : IsLookupOf sources lookup
  pub below : AllLoadedBelow lookup os files modules

module _ {Y Z : Type 0} (sources : BTreeMap (String Y) (String Z)) (files_law : LoadedAreFiles sources) (submodules_law : FoundAreSubmodules sources)
    (w : World) (files : List File) (modules : List ModuleNode) (h : AreStarted sources w files modules) where
  -- the files of a module whose own file is reached
  node_files : (k : ℕ) (node : ModuleNode) → slice_get modules k ≡ Some node → Reached w node.source.now → AreFiles w k node.source.now (files_of files node)
  node_files k node e reached = files_law h.expansion h.version w k node.source.now (files_of files node) (record {
    has = h.has;
    said = range_said w node.first_file node.end_file files h.said;
    own_reached = reached;
    are = (h.all k node e).own_files refl;
  })

  -- a file of a module, and its submodules
  pub record HasFile (k : ℕ) (node : ModuleNode) (n : ℕ) : Type 0 where
    pub file : File
    pub there : slice_get files n ≡ Some file
    pub is : IsFile w k node.source.now file
    pub submodules : (found : List Found) → AreFound h.lookup h.os (key_of (slice_get files n)) (items_of (slice_get files n)) found → AreSubmodules w file.key.now (item_shapes file.ast.items.items) found

  pub has_file : (k : ℕ) (node : ModuleNode) → slice_get modules k ≡ Some node → AreFiles w k node.source.now (files_of files node) → (n : ℕ) → node.first_file ≤ n → n < node.end_file → HasFile k node n
  has_file k node e own_files n from to =
      let le = (h.all k node e).within in
      let f = there_within files n (omega (arith, le, to)) in
      let at = in_range node.first_file node.end_file files n f.0 from to f.1 in
      let is = own_files.each (n - node.first_file) f.0 at in
      let read = ((h.all k node e).own_files refl).order.followed.each (n - node.first_file) f.0 at in
      record {
        file = f.0;
        there = f.1;
        is = is;
        submodules = λ found are. submodules_law h.expansion w h.os h.lookup f.0.key.now f.0.ast.items.items found (record {
          has = h.has;
          same_os = h.same_os;
          looks_up = h.looks_up;
          cooked = read.whole.cooked;
          says = is.says;
        }) (subst (λ o. AreFound h.lookup h.os (key_of o) (items_of o) found) f.1 are);
      }

  abbrev IsHere : ℕ → ModuleNode → Type 0
  IsHere = IsModuleAt w files modules

  -- the root's module
  root_here : (node : ModuleNode) → slice_get modules 0 ≡ Some node → IsHere 0 node
  root_here node e =
      let root = h.has_root in
      let same = same_Some root.node node (sym root.first ∙ e) in
      let no_parent : node.parent ≡ None = ap (λ n. n.parent) (sym same) ∙ root.parent in
      let own : w.root ≡ node.source.now = h.same_root ∙ sym root.source ∙ ap (λ n. n.source.now) same in
      let reached = subst (Reached w) own root_reached in
      record {
        path = [];
        has_path = root_path (mapped node_view modules 0 node e) no_parent;
        is = subst (IsModule w []) own root_module;
        item = subst (HasItem w (map file_view files) (map node_view modules) (node_view node)) (sym no_parent)
            (ap (λ n. n.item) (sym same) ∙ root.item, ap (option_map name_text) (ap (λ n. n.name) (sym same) ∙ root.name));
        own_files = node_files 0 node e reached;
      }

  -- a module below one that is there
  module _ (k : ℕ) (node : ModuleNode) (e : slice_get modules (suc k) ≡ Some node) where
    inner_here : (p : ℕ) (above : ModuleNode) → slice_get modules p ≡ Some above → IsHere p above → (inner : Waiting) → IsLoadedFor inner node → (n : ℕ) → above.first_file ≤ n → n < above.end_file
        → (found : List Found) → AreFound h.lookup h.os (key_of (slice_get files n)) (items_of (slice_get files n)) found → (i : ℕ) (one : Found) → slice_get found i ≡ Some one → inner ≡ waiting n p one → IsHere (suc k) node
    inner_here p above there so inner loaded n from to found are i one at is =
        let f = has_file p above there so.own_files n from to in
        let s = (f.submodules found are).sound i one at in
        let parent : node.parent ≡ Some p = loaded.parent ∙ ap (λ v. v.parent) is in
        let item : node.item ≡ Some (record { file = n; item = one.item }) = loaded.item ∙ ap (λ v. v.item) is in
        let name : node.name ≡ Some one.name = loaded.name ∙ ap (λ v. v.name) is in
        let source : one.file.0 ≡ node.source.now = sym (loaded.source ∙ ap (λ v. v.file.0) is) in
        let module_is : IsModule w (so.path ++ name_text one.name ∷ []) node.source.now = subst (IsModule w (so.path ++ name_text one.name ∷ [])) source (inside_module so.is f.is.of s.is) in
        record {
          path = so.path ++ name_text one.name ∷ [];
          has_path = inside_path (mapped node_view modules (suc k) node e) parent ((h.all (suc k) node e).parent p parent) (ap (option_map name_text) name) so.has_path;
          is = module_is;
          item = subst (HasItem w (map file_view files) (map node_view modules) (node_view node)) (sym parent) (
            node_view above,
            mapped node_view modules p above there,
            record {
              place = record { file = n; item = one.item };
              is = item;
              key = f.file.key.now;
              at = s.is.place;
              attributes = s.attributes;
              line = s.is.line;
              there = record { from = from; to = to; file = file_view f.file; found = mapped file_view files n f.file f.there; is = refl; there = s.there; no_blank = refl; rank = s.rank };
              enabled_here = s.enabled_here;
              named = ap (option_map name_text) name ∙ ap Some (sym s.is.is_named);
              means = subst (MayMean w f.file.key.now s.is.line) source s.is.means;
            },
          );
          own_files = node_files (suc k) node e (own_reached w (so.path ++ name_text one.name ∷ []) node.source.now module_is);
        }

  before : (count : ℕ) (k : ℕ) (node : ModuleNode) → k < count → slice_get modules k ≡ Some node → IsHere k node
  before zero k node lt e = absurd (omega (arith, lt))
  before (suc count) zero node lt e = root_here node e
  before (suc count) (suc k) node lt e =
      let b = h.below k node e in
      let s = b.is in
      let p = (h.all (suc k) node e).parent s.place (b.loaded.parent ∙ ap (λ v. v.parent) s.is) in
      inner_here k node e s.place s.node s.there (before count s.place s.node (omega (arith, p, lt)) s.there) b.submodule b.loaded s.file s.from s.to s.found s.are s.i s.one s.found_at s.is

  -- each module that is loaded is one of the world
  pub each_here : (k : ℕ) (node : ModuleNode) → slice_get modules k ≡ Some node → IsHere k node
  each_here k node e = before (k + 1) k node (omega arith) e

  -- so is each submodule for which one is still to load
  pub waiting_is_module : (inner : Waiting) → IsSubmoduleOf h.lookup h.os files modules inner → (path : List Text) × IsModule w path inner.file.0
  waiting_is_module inner s =
      let so = each_here s.place s.node s.there in
      let f = has_file s.place s.node s.there so.own_files s.file s.from s.to in
      let is = ((f.submodules s.found s.are).sound s.i s.one s.found_at).is in
      (so.path ++ name_text s.one.name ∷ [], subst (IsModule w (so.path ++ name_text s.one.name ∷ [])) (sym (ap (λ v. v.file.0) s.is)) (inside_module so.is f.is.of is))
