-- The definitions of an analysis.
use Rattle.std.proofs.Common.{◌≡◌, ◌∙◌, sym, ap, subst, refl, map, ℕ, zero, suc, List, [], ◌∷◌, length, Option, Some, None, slice_get, arith, codes}
use Rattle.std.proofs.lemmas.List.{length-map}
use Rattle.just_value.specs.declared.positional.Override.{Override}
use Rattle.modules_compilation.specs.declared.compilation.Compilation.{Compilation}
use Rattle.resolve_analysis.specs.declared.analysis.Analysis.{Analysis}
use Rattle.just_resolve.specs.Analysis.{IsAnalysis}
use Rattle.just_resolve.specs.Rules.{IsResolvable}
use Rattle.meaning_rules.specs.Worlds.Given.{Text, World}
use Rattle.meaning_rules.specs.Overrides.{overrides_of}
use Rattle.meaning_evaluation.specs.Named.{Definitions}
use Rattle.just_meaning.specs.Defining.{AreDefined}
use Rattle.std.specs.List.{filter_map}
use Rattle.just_meaning.specs.Known.{HaveRows, IsRead}
use Rattle.laws_modules.proofs.Names.Modules.{modules_are_nodes, reached_are_said}
use Rattle.laws_modules.proofs.Names.Named.{node_is}
use Rattle.laws_runs.specs.Resolved.Modules.{IsPlaced}
use Rattle.meaning_rules.specs.Worlds.Modules.{IsReadingOrder}
use Rattle.meaning_evaluation.specs.Named.{ModuleRow}
use Rattle.laws_runs.specs.Resolved.Definitions.{definitions_of, function_of, key_at, node_of, place_of, rows_of, shape_at}
use Rattle.resolve_recipes.specs.Named.{text_at}
use Rattle.std.specs.Option.{option_and_then}
use Rattle.laws_runs.specs.Settings.Settled.{AllSettle}
use Rattle.laws_runs.proofs.Resolved.Leading.{modules_stand, paths_lead}
use Rattle.laws_runs.proofs.Resolved.Own.{paths_are_own, places_have_paths}
use Rattle.laws_runs.proofs.Resolved.Trees.{trees_are_sorted, trees_have_modules}
use Rattle.laws_runs.specs.Resolved.Kept.{IsWorldOf}
use Rattle.laws_runs.proofs.Resolved.Aliases.{aliases_stand}
use Rattle.laws_runs.proofs.Resolved.Defaults.{defaults_stand}
use Rattle.laws_runs.proofs.Resolved.Recipes.{recipes_stand}
use Rattle.laws_runs.proofs.Resolved.Functions.{functions_stand}
use Rattle.laws_runs.proofs.Resolved.Overrides.{overrides_stand}
use Rattle.laws_runs.proofs.Resolved.Variables.{names_stand, variables_stand}
use Rattle.laws_runs.proofs.Settings.Stand.{settings_stand}
use Rattle.laws_runs.proofs.Settings.Rows.{rows_stand}
use Rattle.laws_runs.specs.Menus.Named.{IsTabled}
use Rattle.laws_runs.proofs.Menus.Renaming.{is_renamed}
use Rattle.laws_runs.proofs.Menus.Targets.{targets_are_named}
use Rattle.analyze_words.specs.Worded.{words_of}
use Rattle.analyze_words.specs.declared.menu.Menus.{Menus}
use Rattle.evaluate_context.specs.declared.settings.Settings.{Settings}
use Rattle.justfile_analyzer.specs.MenusOf.{AreMenusOf, lists_by}
use Rattle.justfile_analyzer.specs.Targets.{target_of}
use Rattle.just_meaning.specs.Actions.{target_of as target_named}
use Rattle.just_meaning.specs.Menus.{lists_by as row_lists}
use Rattle.just_meaning.specs.Menus.{menu_of}
use Rattle.just_meaning.specs.Rows.{truth_set}
use Rattle.laws_runs.specs.Menus.Named.{name_at}
use Rattle.laws_modules.specs.Names.Names.{AreSingle, HasNode, IsOfWorld}
use Rattle.meaning_rules.specs.Worlds.Modules.{IsModule, root}
use Rattle.just_meaning.specs.Known.{HaveRows, IsRead}
use Rattle.laws_modules.proofs.Names.Modules.{modules_are_nodes, reached_are_said}
use Rattle.laws_modules.proofs.Names.Named.{node_is}
use Rattle.laws_runs.specs.Resolved.Modules.{IsPlaced}
use Rattle.meaning_rules.specs.Worlds.Modules.{IsReadingOrder}
use Rattle.meaning_evaluation.specs.Named.{ModuleRow}
use Rattle.laws_runs.specs.Resolved.Definitions.{row_of, sets_of}
use Rattle.laws_runs.proofs.Resolved.Leading.{root_path}
use Rattle.laws_runs.specs.Menus.Targets.{IsNamedTarget}
use Rattle.laws_runs.specs.Words.Renamed.{IsRenamed}
use Rattle.modules_compilation.specs.Modulepaths.{path_in}
use Rattle.modules_compilation.specs.declared.module_node.ModuleNode.{ModuleNode}
use Rattle.resolve_analysis.specs.Lists.{kept_by, kept_in}
use Rattle.laws_runs.specs.Defined.Defined.{AnalysesAreDefined}
use Rattle.laws_runs.proofs.Defined.Worded.{breaks_named, invokes_named, means_named, targets_named}

-- an element of as many others stands at a place where one stands
there_too : {X Y : Type 0} (xs : List X) (ys : List Y) (k : ℕ) (x : X) → length ys ≡ length xs → slice_get xs k ≡ Some x → (y : Y) × (slice_get ys k ≡ Some y)
there_too [] ys k x many e = absurd (cc e)
there_too (x ∷ xs) [] k y many e = absurd (cc many)
there_too (x ∷ xs) (y ∷ ys) zero z many e = (y, refl)
there_too (x ∷ xs) (y ∷ ys) (suc k) z many e = there_too xs ys k z (suc_injective many) e
  where
    suc_injective : {m n : ℕ} → suc m ≡ suc n → m ≡ n
    suc_injective e = omega (arith, e)

-- the root is there
root_there : (w : World) (compilation : Compilation) → IsOfWorld w compilation → AreSingle w compilation → (node : ModuleNode) × HasNode w compilation 0 node
root_there w compilation is single =
    let p = (modules_stand w compilation is single [] w.root).0 root in
    let same : p.k ≡ 0 = cc p.found in (p.node, subst (λ k. HasNode w compilation k p.node) same p.here)

module _ (w : World) (compilation : Compilation) (is : IsResolvable w compilation) (given : List Override) (base : Text) (analysis : Analysis) (known : IsAnalysis compilation base given analysis) (working : Text) where
  -- what the settings of all modules settle to
  settled : AllSettle w (overrides_of given) compilation analysis.values.value.settings.items
  settled = settings_stand analysis.values.value.overrides w compilation is.numbered given known.texts_are analysis.variables known.is_known.variables_are analysis.values.value.settings.items known.is_known.values_are.settings

  abbrev defined : Definitions
  defined = definitions_of compilation w.expansion (overrides_of given) settled.settle base working

  world : IsWorldOf w compilation
  world = record { of = is.numbered.of; single = is.numbered.single; settings = is.numbered.settings }

  -- where there is no module there is no node
  no_node : (path : List Text) → ((own : Text) → IsModule w path own → ⊥) → (place : Option ℕ) → place_of compilation path ≡ place → (node : Option ModuleNode) → option_and_then (slice_get compilation.modules.items) place ≡ node → node ≡ None
  no_node path none place at None e = refl
  no_node path none None at (Some node) e = absurd (cc e)
  no_node path none (Some k) at (Some node) e =
      absurd (none node.source.now ((modules_stand w compilation is.numbered.of is.numbered.single path node.source.now).1 (record { k = k; node = node; found = at; here = e; is = refl })))

  nowhere : (path : List Text) → ((own : Text) → IsModule w path own → ⊥) → (defined.names path ≡ []) × (defined.functions path ≡ [])
  nowhere path none =
      let e : node_of compilation path ≡ None = no_node path none (place_of compilation path) refl (node_of compilation path) refl in (
        ap (λ node. map (text_at compilation) (rows_of (λ (n : ModuleNode). n.assignments.items) node)) e,
        ap (λ node. filter_map (λ place. function_of (key_at compilation place) (shape_at compilation place)) (rows_of (λ (n : ModuleNode). n.functions.items) node)) e,
      )

  -- an order of the files of a module by another name
  ordered : {own other : Text} {files : List Text} → IsReadingOrder w own files → own ≡ other → (all : List Text) × IsReadingOrder w other all
  ordered {files = files} order same = (files, subst (λ o. IsReadingOrder w o files) same order)

  -- the files of a module have an order, and those that are reached say something
  read : IsRead w
  read = record {
    said = reached_are_said w compilation is.numbered.of is.numbered.single;
    orders = λ path own m.
        let n = modules_are_nodes w compilation is.numbered.of is.numbered.single path own m in
        let files = node_is w compilation is.numbered.of n.0 n.1 n.2 in
        ordered files.own_files.order n.4;
  }

  -- a module of the tree has a row
  row_there : (path : List Text) (own : Text) → IsPlaced w compilation path own → (row : ModuleRow) × (defined.inside path ≡ Some row)
  row_there path own p =
      (_, ap (λ place. option_and_then (λ k. row_of compilation settled.settle base working path k (slice_get compilation.modules.items k)) place) p.found ∙ ap (row_of compilation settled.settle base working path p.k) p.here)

  rows : HaveRows defined
  rows = λ path c.
      let m = (trees_have_modules w compilation is.numbered.of is.numbered.single path).0 c in
      row_there path m.0 ((modules_stand w compilation is.numbered.of is.numbered.single path m.0).0 m.1)

  are_defined : AreDefined w (overrides_of given) base working defined
  are_defined = record {
    tree = trees_have_modules w compilation is.numbered.of is.numbered.single;
    sorted = trees_are_sorted w compilation is.numbered.of is.numbered.single;
    recipes = recipes_stand w compilation world (overrides_of given);
    aliases = aliases_stand w compilation world (overrides_of given);
    defaults = defaults_stand w compilation world (overrides_of given);
    names = names_stand w compilation is.numbered.of is.numbered.single (overrides_of given);
    variables = variables_stand w compilation is.numbered.of is.numbered.single (overrides_of given);
    overrides = overrides_stand w compilation is.numbered.of is.numbered.single (overrides_of given);
    functions = functions_stand w compilation is.numbered.of is.numbered.single (overrides_of given);
    modules = rows_stand modules_stand paths_lead w compilation is.numbered.of is.numbered.single is.numbered.settings (overrides_of given) analysis.values.value.settings.items known.is_known.values_are.settings.settled.many settled base working;
    nowhere = nowhere;
  }

  -- as many as there are modules
  as_many : length analysis.variables.lists.items ≡ length compilation.modules.items
  as_many = sym (length-map analysis.variables.lists.items kept_in) ∙ (ap length known.is_known.variables_are.lists ∙ length-map compilation.modules.items (kept_by compilation))

  tabled : IsTabled w compilation analysis.variables.reads.items analysis.table.value
  tabled = record {
    of = is.numbered.of;
    single = is.numbered.single;
    by_name = is.by_name;
    options = is.numbered.options;
    many =
        let reads = known.is_known.variables_are.of.reads.many in
        let lists = as_many in omega (arith, reads, lists);
    is_table = known.recipes_are;
  }

  -- whether the root's settings ask for the list
  lists_alike : (node : ModuleNode) (settings : Settings) → HasNode w compilation 0 node → slice_get analysis.values.value.settings.items 0 ≡ Some settings → (menu_of defined).lists ≡ lists_by (slice_get analysis.values.value.settings.items 0)
  lists_alike node settings here there =
      subst (λ node. row_lists (row_of compilation settled.settle base working [] 0 node) ≡ lists_by (slice_get analysis.values.value.settings.items 0)) (sym here)
      (subst (λ first. truth_set (settled.settle 0) (sets_of compilation node) (codes "default-list") ≡ lists_by first) (sym there)
      (settled.each 0 node [] settings here (root_path w compilation is.numbered.of) there).settled.default_list)

  root_lists : (menu_of defined).lists ≡ lists_by (slice_get analysis.values.value.settings.items 0)
  root_lists =
      let root = root_there w compilation is.numbered.of is.numbered.single in
      let first = there_too compilation.modules.items analysis.values.value.settings.items 0 root.0 known.is_known.values_are.settings.settled.many root.1 in
      lists_alike root.0 first.0 root.1 first.1

  target_is : (word : List ℕ) → IsNamedTarget compilation analysis.variables.lists.items (target_of compilation.modules.items analysis.variables.lists.items word) (target_named defined (word ∷ []))
  target_is word = targets_are_named paths_lead paths_are_own w compilation is.numbered.of is.numbered.single is.by_name analysis.variables.lists.items known.is_known.variables_are.lists (overrides_of given) settled.settle base working word

  menus_are : (words : List Text) (menus : Menus) → AreMenusOf compilation analysis.table.value analysis.values.value.settings.items words menus
      → IsRenamed (words_of menus) (menu_of defined) (path_in compilation.modules.items) (name_at compilation analysis.table.value) words
  menus_are words menus are =
      is_renamed paths_lead paths_are_own places_have_paths w compilation analysis.variables.reads.items analysis.table.value tabled (overrides_of given) settled.settle base working analysis.values.value.settings.items words menus are root_lists

-- the definitions of an analysis are those of the world, and words mean by them what they mean by places
pub analyses_are_defined : AnalysesAreDefined
analyses_are_defined w compilation is given base analysis known working words = record {
  settled = settled w compilation is given base analysis known working;
  defined = defined w compilation is given base analysis known working;
  is = refl;
  are = are_defined w compilation is given base analysis known working;
  read = read w compilation is given base analysis known working;
  rows = rows w compilation is given base analysis known working;
  breaks = breaks_named compilation analysis (defined w compilation is given base analysis known working) words (menus_are w compilation is given base analysis known working words) (target_is w compilation is given base analysis known working);
  means = means_named compilation analysis (defined w compilation is given base analysis known working) words (menus_are w compilation is given base analysis known working words) (target_is w compilation is given base analysis known working);
  targets = targets_named compilation analysis (defined w compilation is given base analysis known working) words (menus_are w compilation is given base analysis known working words) (target_is w compilation is given base analysis known working) (paths_are_own w compilation is.numbered.of is.numbered.single [] 0 refl);
  invokes = invokes_named compilation analysis (defined w compilation is given base analysis known working) words (menus_are w compilation is given base analysis known working words) (target_is w compilation is given base analysis known working);
}
