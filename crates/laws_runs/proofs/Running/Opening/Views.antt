-- The views of modules stand at the modules' places.
use Rattle.std.proofs.Common.{◌≡◌, refl, sym, ◌∙◌, ap, subst, List, [], ◌∷◌, map, length, Option, Some, is_some, ℕ, suc, ◌+◌, ◌<◌, arith}
use Rattle.std.specs.Prelude.{slice_get}
use Rattle.std.specs.Global.{Vec}
use Rattle.std.specs.List.{cons_option, filter_map, range_with_len}
use Rattle.std.proofs.lemmas.List.{length-map}
use Rattle.std.proofs.lemmas.List.FromFn.{length-range_with_len}
use Rattle.std.proofs.lemmas.Option.{same_Some, slice_get_within}
use Rattle.evaluate_context.specs.declared.context.ModuleView.{ModuleView}
use Rattle.evaluate_context.specs.declared.settings.Settings.{Settings}
use Rattle.just_value.specs.declared.positional.Override.{Override}
use Rattle.modules_compilation.specs.declared.compilation.Compilation.{Compilation}
use Rattle.modules_compilation.specs.declared.module_node.ModuleNode.{ModuleNode}
use Rattle.resolve_analysis.specs.Lists.{Kept, kept_by, kept_in, variables_at, variables_in}
use Rattle.resolve_analysis.specs.Views.{View, seen, view_at, view_of, views_of}
use Rattle.resolve_analysis.specs.declared.analysis.Analysis.{Analysis}
use Rattle.resolve_analysis.specs.declared.module_lists.ModuleLists.{ModuleLists}
use Rattle.just_resolve.specs.Analysis.{IsAnalysis}
use Rattle.just_resolve.specs.Settling.{folder_of}
use Rattle.laws_runs.proofs.Menus.Lists.{range_at}
use Rattle.laws_modules.proofs.Names.Found.{mapped, mapped_at, there_within}
use Rattle.laws_names.proofs.Reading.Lists.{GivesAll, given_at, given_from}

module _ (compilation : Compilation) (base : List ℕ) (given : List Override) (analysis : Analysis) (known : IsAnalysis compilation base given analysis) where
  abbrev count : ℕ
  count = length compilation.modules.items

  lists_are : map kept_in analysis.variables.lists.items ≡ map (kept_by compilation) compilation.modules.items
  lists_are = known.is_known.variables_are.lists

  pub lists_many : length analysis.variables.lists.items ≡ length compilation.modules.items
  lists_many = sym (length-map analysis.variables.lists.items kept_in) ∙ ap length lists_are ∙ length-map compilation.modules.items (kept_by compilation)

  pub orders_many : length analysis.variables.orders.items ≡ length compilation.modules.items
  orders_many = known.is_known.variables_are.of.orders.many ∙ lists_many

  pub settings_many : length analysis.values.value.settings.items ≡ length compilation.modules.items
  settings_many = known.is_known.values_are.settings.settled.many

  pub folders_are : analysis.values.value.folders.items ≡ map (λ (node : ModuleNode). folder_of base node.source.now) compilation.modules.items
  folders_are = known.is_known.values_are.folders

  pub folders_many : length analysis.values.value.folders.items ≡ length compilation.modules.items
  folders_many = ap length folders_are ∙ length-map compilation.modules.items (λ (node : ModuleNode). folder_of base node.source.now)

  -- what a module's lists keep is what the module keeps
  pub kept_here : (k : ℕ) (node : ModuleNode) (lists : ModuleLists) → slice_get compilation.modules.items k ≡ Some node → slice_get analysis.variables.lists.items k ≡ Some lists → kept_in lists ≡ kept_by compilation node
  kept_here k node lists here there =
      same_Some (kept_in lists) (kept_by compilation node)
      (sym (mapped kept_in analysis.variables.lists.items k lists there) ∙ ap (λ l. slice_get l k) lists_are ∙ mapped (kept_by compilation) compilation.modules.items k node here)

  pub variables_here : (k : ℕ) (node : ModuleNode) (lists : ModuleLists) → slice_get compilation.modules.items k ≡ Some node → slice_get analysis.variables.lists.items k ≡ Some lists
      → variables_in lists.assignments.items ≡ variables_at compilation node.assignments.items
  variables_here k node lists here there = ap (λ (x : Kept). x.variables) (kept_here k node lists here there)

  -- the view that is made of these
  abbrev made : ℕ → ModuleNode → ModuleLists → Vec ℕ → Settings → List ℕ → View
  made k node lists order settings folder = record {
    assignments = lists.assignments.items;
    evaluation_order = order.items;
    functions = lists.functions.items;
    settings = settings;
    source = node.source.now;
    modules = compilation.modules.items;
    place = k;
    working_directory = folder;
    unexports = node.unexports.items;
    is_submodule = is_some node.parent;
  }

  -- each module has a view
  all_viewed : (k : ℕ) → k < length compilation.modules.items → (view : View) × (view_at compilation.modules.items analysis.variables analysis.values.value k ≡ Some view)
  all_viewed k lt =
      let ls = lists_many in
      let os = orders_many in
      let ss = settings_many in
      let fs = folders_many in
      let node = there_within compilation.modules.items k lt in
      let lists = there_within analysis.variables.lists.items k (omega (arith, lt, ls)) in
      let order = there_within analysis.variables.orders.items k (omega (arith, lt, os)) in
      let settings = there_within analysis.values.value.settings.items k (omega (arith, lt, ss)) in
      let folder = there_within analysis.values.value.folders.items k (omega (arith, lt, fs)) in (
        made k node.0 lists.0 order.0 settings.0 folder.0,
        ap (λ x. view_of compilation.modules.items k x (slice_get analysis.variables.lists.items k) (slice_get analysis.variables.orders.items k) (slice_get analysis.values.value.settings.items k) (slice_get analysis.values.value.folders.items k)) node.1
            ∙ ap (λ x. view_of compilation.modules.items k (Some node.0) x (slice_get analysis.variables.orders.items k) (slice_get analysis.values.value.settings.items k) (slice_get analysis.values.value.folders.items k)) lists.1
            ∙ ap (λ x. view_of compilation.modules.items k (Some node.0) (Some lists.0) x (slice_get analysis.values.value.settings.items k) (slice_get analysis.values.value.folders.items k)) order.1
            ∙ ap (λ x. view_of compilation.modules.items k (Some node.0) (Some lists.0) (Some order.0) x (slice_get analysis.values.value.folders.items k)) settings.1
            ∙ ap (λ x. view_of compilation.modules.items k (Some node.0) (Some lists.0) (Some order.0) (Some settings.0) x) folder.1,
      )

  range_there : (many i k : ℕ) → slice_get (range_with_len 0 many) i ≡ Some k → (i ≡ k) × (k < many)
  range_there many i k e =
      let within = slice_get_within (range_with_len 0 many) i k e in
      let long = length-range_with_len 0 many in
      let lt : i < many = omega (arith, within, long) in
      let same : 0 + i ≡ k = same_Some (0 + i) k (sym (range_at 0 many i lt) ∙ e) in
      (omega (arith, same), omega (arith, same, lt))

  -- a view at a place is that of the module there
  pub view_there : (modules : List ModuleView) → map seen modules ≡ views_of analysis.modules.now analysis.variables analysis.values.value (length analysis.modules.now)
      → (k : ℕ) (view : ModuleView) → slice_get modules k ≡ Some view → view_at compilation.modules.items analysis.variables analysis.values.value k ≡ Some (seen view)
  view_there modules views k view e =
      let all = subst (λ nodes. map seen modules ≡ views_of nodes analysis.variables analysis.values.value (length nodes)) known.modules_are views in
      let at = sym (ap (λ l. slice_get l k) all) ∙ mapped seen modules k view e in
      let g = given_from (view_at compilation.modules.items analysis.variables analysis.values.value) (range_with_len 0 (length compilation.modules.items))
      (λ i x f. let r = range_there (length compilation.modules.items) i x f in all_viewed x r.1) k (seen view) at in
      let r = range_there (length compilation.modules.items) k g.0 g.1 in
      ap (view_at compilation.modules.items analysis.variables analysis.values.value) r.0 ∙ g.2

  range_here : (many k : ℕ) → k < many → slice_get (range_with_len 0 many) k ≡ Some k
  range_here many k lt = let same : 0 + k ≡ k = omega arith in range_at 0 many k lt ∙ ap (λ m. Some m) same

  all_given : GivesAll (view_at compilation.modules.items analysis.variables analysis.values.value) (range_with_len 0 (length compilation.modules.items))
  all_given i x f = let r = range_there (length compilation.modules.items) i x f in all_viewed x r.1

  length_given : {X Y : Type 0} (f : X → Option Y) (xs : List X) → GivesAll f xs → length (filter_map f xs) ≡ length xs
  length_given f [] all = refl
  length_given f (x ∷ xs) all =
      let g = all 0 x refl in
      ap (λ o. length (cons_option o (filter_map f xs))) g.1 ∙ ap suc (length_given f xs (λ k. all (suc k)))

  module _ (modules : List ModuleView) (views : map seen modules ≡ views_of analysis.modules.now analysis.variables analysis.values.value (length analysis.modules.now)) where
    views_here : map seen modules ≡ views_of compilation.modules.items analysis.variables analysis.values.value (length compilation.modules.items)
    views_here = subst (λ nodes. map seen modules ≡ views_of nodes analysis.variables analysis.values.value (length nodes)) known.modules_are views

    -- each module has its view among these
    pub view_exists : (k : ℕ) → k < length compilation.modules.items → (view : ModuleView) × (slice_get modules k ≡ Some view)
    view_exists k lt =
        let g = all_viewed k lt in
        let there = given_at (view_at compilation.modules.items analysis.variables analysis.values.value) (range_with_len 0 (length compilation.modules.items)) all_given k k g.0 (range_here (length compilation.modules.items) k lt) g.1 in
        let m = mapped_at seen modules k g.0 (ap (λ l. slice_get l k) views_here ∙ there) in
        (m.0, m.1)

    pub views_many : length modules ≡ length compilation.modules.items
    views_many =
        sym (length-map modules seen) ∙ ap length views_here
        ∙ length_given (view_at compilation.modules.items analysis.variables analysis.values.value) (range_with_len 0 (length compilation.modules.items)) all_given
        ∙ length-range_with_len 0 (length compilation.modules.items)
