-- Where modules keep what they define, no rule of sources is broken, if no file leads back to itself and each alias stands for something.
use Rattle.std.proofs.Common.{◌≡◌, ◌⊎◌, inl, inr, sym, ◌∙◌, ap, subst, Bool, true, false, ◌<◌, ◌+◌, ◌-◌, ◌∷◌, [], ℕ, List, Some, refl, arith, length}
use Rattle.std.specs.Prelude.{◌↔◌, Contains, is_some, slice_get}
use Rattle.std.specs.BTreeMap.{BTreeMap}
use Rattle.std.specs.List.Sorted.{IsStrictlySortedBy}
use Rattle.std.specs.Ordering.{is_eq}
use Rattle.std.specs.declared.string.String.{String}
use Rattle.std.proofs.lemmas.Bool.{false≢true}
use Rattle.std.proofs.lemmas.Map.Keys.{Less-from_sorted}
use Rattle.std.proofs.lemmas.Map.Text.{is_eq-slice_cmp}
use Rattle.std.proofs.lemmas.Slice.Eq.{bytes_eq-Decides}
use Rattle.just_text.specs.Numbers.{Numbers}
use Rattle.just_text.specs.declared.compile_error.CompileErrorKind.{CompileErrorKind}
use Rattle.just_text.specs.declared.os.Os.{Os}
use Rattle.tree_items.specs.Files.{ItemShape, item_shapes}
use Rattle.tree_items.specs.Items.{ModuleShape}
use Rattle.parse_expressions.specs.Literals.{Expansion}
use Rattle.justfile_syntax.specs.Laws.{FaultsSayNothing}
use Rattle.semver.specs.declared.Version.{Version}
use Rattle.modules_compilation.specs.Paths.{is_clean}
use Rattle.modules_compilation.specs.Places.{items_of}
use Rattle.modules_compilation.specs.Tables.{text_cmp}
use Rattle.modules_compilation.specs.declared.compilation.Compilation.{Compilation}
use Rattle.modules_compilation.specs.declared.module_node.ModuleNode.{ModuleNode}
use Rattle.modules_definitions.specs.declared.definition.Definition.{Definition}
use Rattle.modules_sources.specs.Items.{key_of}
use Rattle.modules_sources.specs.Loaded.{AreLoaded}
use Rattle.modules_sources.specs.Submodules.{AreFound, Found}
use Rattle.meaning_rules.specs.Worlds.Given.{Overrides, Text, World}
use Rattle.meaning_rules.specs.Worlds.Keeping.{IsTwice, Kind}
use Rattle.meaning_rules.specs.Worlds.Modules.{IsModule}
use Rattle.meaning_rules.specs.Worlds.Sources.{HasModule, ImportsAt, IsFileOf, MayMean, Reached}
use Rattle.meaning_rules.specs.Worlds.Standing.{StandsFor}
use Rattle.meaning_rules.proofs.Worlds.Places.{contains_first, contains_later}
use Rattle.meaning_rules.proofs.Worlds.Reached.{own_reached}
use Rattle.meaning_rules.specs.Rules.{Breaks, Broken, IsFileFault, IsTwiceOf, LeadsNowhere, Rule, syntax, missing_root, missing_import, circular_import, missing_module, ambiguous_module, redefinition, duplicate_variable, duplicate_set, duplicate_unexport, export_unexported, unknown_alias_target, unstable_feature, lists_needed, cache_left_out, attribute_conflict, undefined_variable, unknown_function, function_argument_count, circular_variable, unknown_dependency, circular_recipe, dependency_argument_count, const_error, unknown_override, module_as_recipe, is_of_sources}
use Rattle.laws_modules.specs.Files.Laws.{AreLoadedFiles}
use Rattle.meaning_rules.specs.Worlds.Views.{given_of}
use Rattle.laws_modules.proofs.Files.Loaded.{loaded_are_faultless, loaded_are_files, loaded_import_there}
use Rattle.laws_modules.specs.Submodules.Submodules.{AreSubmodules}
use Rattle.laws_modules.proofs.Submodules.Files.{found_are_submodules}
use Rattle.laws_modules.proofs.Definitions.Twice.{single_is_not_twice}
use Rattle.laws_modules.proofs.Modules.Loaded.{file_at_key, HasFileAt, of_module}
use Rattle.laws_modules.proofs.Modules.Ranges.{in_range}
use Rattle.laws_modules.proofs.Modules.Said.{range_said}
use Rattle.laws_modules.proofs.Modules.Waiting.{waits_of}
use Rattle.just_modules.specs.Keeping.{AreFilled, files_of, Keeps, range_of, truths_in}
use Rattle.just_modules.specs.ModuleRules.{BreaksOwn, ExportsUnexported, is_of_items}
use Rattle.just_modules.specs.Settings.{allowed_by}
use Rattle.just_modules.proofs.ModuleExports.{exports_clear}
use Rattle.just_modules.proofs.ModuleRules.{fault_of_own, files_clear, own_is_module, own_of}
use Rattle.just_modules.proofs.InWorld.{is_loaded, modules, node_allowed, node_files, node_found, node_parsed}

-- texts in strict order, of which there are two, are not all one
two_differ : (texts : List Text) → 1 < length texts → IsStrictlySortedBy text_cmp texts → ((a b : Text) → Contains texts a → Contains texts b → a ≡ b) → ⊥
two_differ [] many sorted one = absurd (omega (arith, many))
two_differ (a ∷ []) many sorted one = absurd (omega (arith, many))
two_differ (a ∷ b ∷ texts) many sorted one =
    let less = Less-from_sorted text_cmp (a ∷ b ∷ texts) 0 1 a sorted (omega arith) many in
    let same : b ≡ a = one b a (contains_later a (b ∷ texts) b (contains_first b texts)) (contains_first a (b ∷ texts)) in
    absurd (false≢true (ap is_eq (sym less) ∙ is_eq-slice_cmp a b ∙ (bytes_eq-Decides a b).1 (sym same)))

module _ {Y Z : Type 0} (sources : BTreeMap (String Y) (String Z)) (expansion : Expansion) (version : Version) (os : Os) (unstable : Bool) (start : Numbers) (root : Text) (loaded compilation : Compilation)
    (are : AreLoaded sources expansion version os start true root loaded) (filled : AreFilled os unstable loaded compilation) (w : World) (stands : StandsFor (given_of sources os unstable expansion version root) w) where
  -- ---- files that are reached

  -- a file that is reached is one of a module that is loaded
  record IsReachedAt (key : Text) : Type 0 where
    k : ℕ
    node : ModuleNode
    there : slice_get loaded.modules.items k ≡ Some node
    of : IsFileOf w node.source.now key
    own : Reached w node.source.now

  reached_at : (key : Text) → Reached w key → IsReachedAt key
  reached_at key reached =
      let r = of_module sources (loaded_are_files sources) (found_are_submodules sources) w loaded (is_loaded sources expansion version os unstable start root loaded are w stands) key reached in
      let p = (modules sources expansion version os unstable start root loaded are w stands).complete r.0 r.1 r.2 in
      record {
        k = p.k;
        node = p.node;
        there = p.there;
        of = subst (λ o. IsFileOf w o key) (sym p.source) r.3;
        own = subst (Reached w) (sym p.source) (own_reached w r.0 r.1 r.2);
      }

  loaded_files : (key : Text) (r : IsReachedAt key) → AreLoadedFiles sources expansion version w r.k r.node.source.now (files_of loaded.files.items (range_of r.node))
  loaded_files key r =
      let h = is_loaded sources expansion version os unstable start root loaded are w stands in
      record { has = h.has; said = range_said w r.node.first_file r.node.end_file loaded.files.items h.said; own_reached = r.own; are = (are.modules r.k r.node r.there).own_files refl }

  file_here : (key : Text) (r : IsReachedAt key) → HasFileAt sources (loaded_are_files sources) (found_are_submodules sources) w loaded (is_loaded sources expansion version os unstable start root loaded are w stands) r.k r.node key
  file_here key r = file_at_key sources (loaded_are_files sources) (found_are_submodules sources) w loaded (is_loaded sources expansion version os unstable start root loaded are w stands) r.k r.node r.there key r.of

  -- there is a file at each key that is reached
  is_there : (key : Text) → Reached w key → w.there key ≡ true
  is_there key reached =
      let r = reached_at key reached in
      let at = file_here key r in
      let file = at.has.file in
      let place = in_range r.node.first_file r.node.end_file loaded.files.items at.n file at.from at.to at.has.there in
      let read = ((are.modules r.k r.node r.there).own_files refl).order.followed.each (at.n - r.node.first_file) file place in
      ap w.there (sym at.same) ∙ stands.there file.key.now ∙ ap is_some read.there

  -- the submodules of a file that is reached
  record HasSubmodules (key : Text) : Type 0 where
    items : List ItemShape
    found : List Found
    are_there : AreSubmodules w key items found

  submodules_of : (key : Text) → Reached w key → HasSubmodules key
  submodules_of key reached =
      let r = reached_at key reached in
      let at = file_here key r in
      let from = at.from in
      let to = at.to in
      let followed = are.followed r.k r.node r.there in
      let waits = waits_of are.lookup os loaded.files.items followed.above r.k r.node.first_file followed.are (at.n - r.node.first_file) (omega (arith, from, to)) in
      let same : r.node.first_file + (at.n - r.node.first_file) ≡ at.n = omega (arith, from) in
      let found = subst (λ m. AreFound are.lookup os (key_of (slice_get loaded.files.items m)) (items_of (slice_get loaded.files.items m)) waits.found) same waits.are.found_all in
      record {
        items = item_shapes at.has.file.ast.items.items;
        found = waits.found;
        are_there = subst (λ x. AreSubmodules w x (item_shapes at.has.file.ast.items.items) waits.found) at.same (at.has.submodules waits.found found);
      }

  root_clear : (key : Text) → key ≡ w.root → (is_clean key ≡ false) ⊎ (w.there key ≡ false) → ⊥
  root_clear key is (inl unclean) = false≢true (sym unclean ∙ ap is_clean (is ∙ stands.same_root) ∙ are.clean)
  root_clear key is (inr missing) = false≢true (sym missing ∙ is_there key (subst (Reached w) (sym is) Reached.root))

  import_clear : (told file : Text) (place : ℕ) (path : Text) → Reached w file → ImportsAt w file place false path → LeadsNowhere w file path told → ⊥
  import_clear told file place path reached line nowhere =
      let r = reached_at file reached in
      loaded_import_there sources expansion version w r.k r.node.source.now (files_of loaded.files.items (range_of r.node)) (loaded_files file r) file place path told r.of line nowhere

  missing_clear : (file : Text) (place : ℕ) (m : ModuleShape) → Reached w file → HasModule w file place m → m.optional ≡ false → ((key : Text) → MayMean w file m key → ⊥) → ⊥
  missing_clear file place m reached has must none = let c = (submodules_of file reached).are_there.clear place m has must in none c.0 c.1

  ambiguous_clear : (found : List Text) (file : Text) (place : ℕ) (m : ModuleShape) → Reached w file → HasModule w file place m → 1 < length found → IsStrictlySortedBy text_cmp found → ((key : Text) → MayMean w file m key ↔ Contains found key) → ⊥
  ambiguous_clear found file place m reached has many sorted are_meant =
      two_differ found many sorted (λ a b c d. (submodules_of file reached).are_there.alone place m has a b ((are_meant a).1 c) ((are_meant b).1 d))

  fault_clear : FaultsSayNothing → (kind : CompileErrorKind) → IsFileFault w kind → ⊥
  fault_clear faultless kind (key, reached, refused) =
      let r = reached_at key reached in
      loaded_are_faultless sources faultless os unstable expansion version root w stands r.k r.node.source.now (files_of loaded.files.items (range_of r.node)) (loaded_files key r) key kind r.of refused

  -- ---- what modules define

  module _ (k : ℕ) (node : ModuleNode) (e : slice_get loaded.modules.items k ≡ Some node) where
    kept : (kept : List Definition) × Keeps os unstable loaded.files.items loaded.modules.items node kept
    kept = let t = filled.each k node e in (t.2.kept, t.2.keeps)

    node_clear : (rule : Rule) → BreaksOwn w node.source.now rule → ⊥
    node_clear = files_clear w k node.source.now os unstable (files_of loaded.files.items (range_of node)) (node_files sources expansion version os unstable start root loaded are w stands k node e)
        (node_parsed sources expansion version os unstable start root loaded are w stands k node e) stands.same_os stands.same_unstable (λ rule b. kept.1.keeps.whole w rule stands.same_os b)

    node_exports : (name : Text) → ExportsUnexported w node.source.now name → ⊥
    node_exports name x = exports_clear w k node.source.now os unstable loaded.files.items loaded.modules.items node kept.1.definitions stands.same_os
        (node_files sources expansion version os unstable start root loaded are w stands k node e) kept.1.are kept.1.keeps.clear.exported name x

    node_twice : (kind : Kind) (name : Text) → IsTwice w node.source.now kind name → ⊥
    node_twice = single_is_not_twice w os loaded.files.items loaded.modules.items k node kept.1.definitions (allowed_by (truths_in os unstable loaded.files.items (range_of node)))
        (node_found sources expansion version os unstable start root loaded are w stands k node e kept.1.definitions kept.1.are) (node_allowed sources expansion version os unstable start root loaded are w stands k node e) kept.1.keeps.clear.single

  -- a module of the world doesn't break a rule that none does that is loaded
  by_node : (Breaks : Text → Type 0) → ((k : ℕ) (node : ModuleNode) → slice_get loaded.modules.items k ≡ Some node → Breaks node.source.now → ⊥) → (path : List Text) (own : Text) → IsModule w path own → Breaks own → ⊥
  by_node Breaks none path own is b =
      let p = (modules sources expansion version os unstable start root loaded are w stands).complete path own is in
      none p.k p.node p.there (subst Breaks (sym p.source) b)

  own_clear : (own : Text) (rule : Rule) → BreaksOwn w own rule → ⊥
  own_clear own rule b = let m = own_is_module w own rule b in by_node (λ x. BreaksOwn w x rule) (λ k node e. node_clear k node e rule) m.0 own m.1 b

  items_clear : (o : Overrides) (rule : Rule) → is_of_items rule ≡ true → Breaks w o rule → ⊥
  items_clear o rule is b = let r = own_of w o rule is b in own_clear r.0 rule r.1

  pub twice_clear : (kind : Kind) (name : Text) → IsTwiceOf w kind name → ⊥
  twice_clear kind name (own, (path, is), t) = by_node (λ x. IsTwice w x kind name) (λ k node e. node_twice k node e kind name) path own is t

  export_clear : (name : Text) (own : Text) → ExportsUnexported w own name → ⊥
  export_clear name own (a, attributes, (m, here), exported, named, unexported) =
      by_node (λ x. ExportsUnexported w x name) (λ k node e. node_exports k node e name) m.path own m.is (a, attributes, (m, here), exported, named, unexported)

  -- ---- all rules

  pub breaks_none : FaultsSayNothing → (o : Overrides) → ((current other : Text) → Breaks w o (circular_import current other) → ⊥) → ((alias : Text) (target : List Text) → Breaks w o (unknown_alias_target alias target) → ⊥)
      → (rule : Rule) → is_of_sources rule ≡ true → Breaks w o rule → ⊥
  breaks_none faultless o round nowhere_led (syntax kind) is (inl fault) = fault_clear faultless kind fault
  breaks_none faultless o round nowhere_led (syntax kind) is (inr (said, fault)) = let b = fault_of_own w kind fault in own_clear b.0 (syntax kind) b.1
  breaks_none faultless o round nowhere_led (missing_root key) is (root_is, why) = root_clear key root_is why
  breaks_none faultless o round nowhere_led (missing_import told) is (file, place, path, reached, line, nowhere) = import_clear told file place path reached line nowhere
  breaks_none faultless o round nowhere_led (missing_module name) is (file, place, m, reached, has, must, named, none) = missing_clear file place m reached has must none
  breaks_none faultless o round nowhere_led (ambiguous_module name found) is (file, place, m, reached, has, named, many, sorted, meant) = ambiguous_clear found file place m reached has many sorted meant
  breaks_none faultless o round nowhere_led (redefinition name) is (inl t) = twice_clear Kind.an_alias name t
  breaks_none faultless o round nowhere_led (redefinition name) is (inr (inl t)) = twice_clear Kind.a_function name t
  breaks_none faultless o round nowhere_led (redefinition name) is (inr (inr (inl t))) = twice_clear Kind.a_recipe name t
  breaks_none faultless o round nowhere_led (redefinition name) is (inr (inr (inr t))) = twice_clear Kind.a_submodule name t
  breaks_none faultless o round nowhere_led (duplicate_variable name) is t = twice_clear Kind.a_variable name t
  breaks_none faultless o round nowhere_led (duplicate_set name) is t = twice_clear Kind.a_setting name t
  breaks_none faultless o round nowhere_led (duplicate_unexport name) is t = twice_clear Kind.an_unexport name t
  breaks_none faultless o round nowhere_led (export_unexported name) is (own, a, attributes, stands_there, exported, named, unexported) = export_clear name own (a, attributes, stands_there, exported, named, unexported)
  breaks_none faultless o round nowhere_led (unstable_feature feature) is b = items_clear o (unstable_feature feature) refl b
  breaks_none faultless o round nowhere_led (lists_needed feature) is b = items_clear o (lists_needed feature) refl b
  breaks_none faultless o round nowhere_led (cache_left_out name) is b = items_clear o (cache_left_out name) refl b
  breaks_none faultless o round nowhere_led (attribute_conflict name one other) is b = items_clear o (attribute_conflict name one other) refl b
  breaks_none faultless o round nowhere_led (circular_import one other) is b = round one other b
  breaks_none faultless o round nowhere_led (unknown_alias_target name path) is b = nowhere_led name path b
  breaks_none faultless o round nowhere_led (undefined_variable name) is b = absurd (false≢true is)
  breaks_none faultless o round nowhere_led (unknown_function name) is b = absurd (false≢true is)
  breaks_none faultless o round nowhere_led (function_argument_count name count) is b = absurd (false≢true is)
  breaks_none faultless o round nowhere_led (circular_variable names) is b = absurd (false≢true is)
  breaks_none faultless o round nowhere_led (unknown_dependency name path) is b = absurd (false≢true is)
  breaks_none faultless o round nowhere_led (circular_recipe names) is b = absurd (false≢true is)
  breaks_none faultless o round nowhere_led (dependency_argument_count name path count) is b = absurd (false≢true is)
  breaks_none faultless o round nowhere_led const_error is b = absurd (false≢true is)
  breaks_none faultless o round nowhere_led (unknown_override text) is b = absurd (false≢true is)
  breaks_none faultless o round nowhere_led (module_as_recipe path) is b = absurd (false≢true is)
