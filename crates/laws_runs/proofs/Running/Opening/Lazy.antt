-- The variables that lazy modules evaluate are those that open by names.
use Rattle.std.proofs.Common.{◌≡◌, ◌↔◌, inl, inr, refl, sym, ◌∙◌, ap, ap₂, subst, Bool, true, false, not, ◌||◌, if◌then◌else◌, is_some, List, [], ◌∷◌, map, length, Option, Some, None, ℕ, ◌≤◌, ◌<◌, ◌^◌, arith, true≢false}
use Rattle.std.specs.Prelude.{Contains, slice_get}
use Rattle.std.specs.Borrow.{Bor}
use Rattle.std.specs.BTreeMap.{get}
use Rattle.std.specs.BTreeSet.{BTreeSet}
use Rattle.std.specs.List.{list_any}
use Rattle.std.specs.Option.{option_map}
use Rattle.std.specs.Ordering.{nat_cmp}
use Rattle.std.specs.String.{string_bytes}
use Rattle.std.proofs.lemmas.Bool.Decides.{leb_tells}
use Rattle.std.proofs.lemmas.List.{length-map}
use Rattle.std.proofs.lemmas.Option.{get_or_from_slice_get, same_Some, slice_get_within}
use Rattle.just_value.specs.declared.positional.Override.{Override}
use Rattle.tree_expressions.specs.declared.expression.Expression.{Expression}
use Rattle.tree_items.specs.declared.item.Binding.{Binding}
use Rattle.evaluate_context.specs.declared.context.AssignmentRef.{AssignmentRef}
use Rattle.evaluate_context.specs.declared.context.ModuleView.{ModuleView}
use Rattle.evaluate_context.specs.declared.settings.Settings.{Settings}
use Rattle.evaluate_variables.specs.Opened.{overridden, reads}
use Rattle.modules_compilation.specs.Modulepaths.{path_in}
use Rattle.modules_compilation.specs.declared.compilation.Compilation.{Compilation}
use Rattle.modules_compilation.specs.declared.module_node.ModuleNode.{ModuleNode}
use Rattle.resolve_order.specs.Flooded.{followed, is_stop, leads_of}
use Rattle.resolve_order.specs.Needs.{Needs, rows}
use Rattle.resolve_order.specs.Reads.{ReadsThrough, directly, through}
use Rattle.resolve_analysis.specs.Lists.{kept_by, kept_in, variables_at, variables_in}
use Rattle.resolve_analysis.specs.Opening.{IsEvaluated, IsReadByRecipe, exports_all, is_wanted as is_wanted_anyway}
use Rattle.resolve_analysis.specs.Opening as places
use Rattle.resolve_analysis.specs.Reads.{IsResolverOf, overridden_by}
use Rattle.resolve_analysis.specs.Views.{seen}
use Rattle.resolve_analysis.specs.declared.analysis.Analysis.{Analysis}
use Rattle.resolve_analysis.specs.declared.module_lists.ModuleLists.{ModuleLists}
use Rattle.resolve_analysis.specs.declared.module_reads.ModuleReads.{ModuleReads}
use Rattle.resolve_analysis.specs.declared.recipes.ResolvedRecipe.{ResolvedRecipe}
use Rattle.just_resolve.specs.Variables.{IsReads}
use Rattle.analyze_calls.specs.Opening.{is_wanted}
use Rattle.analyze_calls.specs.declared.opening.Opening.{Opening as Opens}
use Rattle.run_tasks.specs.Prepared.Wanted.{IsWanted, called_by, is_lazy, wants_all}
use Rattle.run_tasks.specs.declared.task.Task.{Task}
use Rattle.run_tasks.specs.declared.task.TaskContext.{TaskContext}
use Rattle.meaning_rules.specs.Worlds.Compiled.{HasPath}
use Rattle.meaning_rules.specs.Worlds.Given.{Text, World}
use Rattle.meaning_rules.proofs.Worlds.Places.{contains_at, contains_cases, contains_none, place_of}
use Rattle.laws_modules.specs.Names.Names.{nodes, views}
use Rattle.laws_modules.proofs.Names.Found.{mapped, there_within}
use Rattle.meaning_rules.specs.Overrides.{overrides_of}
use Rattle.laws_names.specs.Reading.Cycles.{IsGraphOf}
use Rattle.laws_names.specs.Reading.Meant.{IsNumberedWorld}
use Rattle.meaning_evaluation.specs.Named.{Definitions, ModuleRow, RecipeName, VariableName, VariableRow}
use Rattle.just_meaning.specs.Opening.{IsOpened, is_exported, module_says, named, variable_says}
use Rattle.just_meaning.specs.Opening as opening
use Rattle.just_meaning.specs.Reading.{RecipeReads, VariableReads}
use Rattle.laws_runs.specs.Resolved.Definitions.{key_at}
use Rattle.laws_runs.proofs.Resolved.Own.{path_is}
use Rattle.laws_runs.specs.Settings.Settled.{AllSettle}
use Rattle.laws_runs.specs.Menus.Named.{name_at}
use Rattle.laws_runs.specs.Views.Read.{AreEvaluated, AreReadFrom}
use Rattle.laws_runs.proofs.Views.Evaluated.{evaluated_are_closed, opened_here, running_are_read}
use Rattle.laws_runs.specs.Running.Opened.{IsTaskOf}
use Rattle.laws_runs.proofs.Running.Opening.Back.{reads_by_name}
use Rattle.laws_runs.proofs.Running.Opening.Graphs.{defines, reads_by_place}
use Rattle.laws_runs.proofs.Running.Opening.Module as kept
use Rattle.laws_runs.proofs.Running.Opening.Context.{defined_by}
use Rattle.laws_runs.proofs.Running.Opening.Opens.{row_of_view}
use Rattle.laws_runs.proofs.Running.Opening.Ordering as ordering
use Rattle.laws_runs.proofs.Running.Opening.Ranked as ranked
use Rattle.laws_runs.proofs.Running.Opening.Reached.{Ran, from_reached, row_of, to_reached}
use Rattle.laws_runs.proofs.Running.Opening.Read as recipes
use Rattle.laws_runs.proofs.Running.Opening.Requests.{HasRow, IsViewOf, settings_in}
use Rattle.laws_runs.proofs.Running.Opening.Values.{name_of, number_of}
use Rattle.laws_runs.proofs.Running.Opening.Views.{kept_here, lists_many}
use Rattle.laws_runs.proofs.Running.Opening.Written.{AttributesStandOnce}

any_true : {X : Type 0} (test : X → Bool) (xs : List X) (x : X) → Contains xs x → test x ≡ true → list_any test xs ≡ true
any_true test [] x c e = absurd (contains_none [] x refl c)
any_true test (y ∷ ys) x c e = elim (contains_cases y ys x c) [
  | inl is ↦ first_so (test y) (list_any test ys) (ap test is ∙ e)
  | inr d ↦ later_so (test y) (list_any test ys) (any_true test ys x d e)
]
  where
    first_so : (a b : Bool) → a ≡ true → (a || b) ≡ true
    first_so true b e = refl
    first_so false b e = absurd (true≢false (sym e))

    later_so : (a b : Bool) → b ≡ true → (a || b) ≡ true
    later_so true b e = refl
    later_so false b e = e

-- what is not there has no text
no_text : {X Y : Type 0} (f : X → Y) (o : Option X) → is_some o ≡ false → option_map f o ≡ None
no_text f None e = refl
no_text f (Some x) e = absurd (true≢false e)

module _ (w : World) (compilation : Compilation) (given : List Override) (base : Text) (analysis : Analysis) (settled : AllSettle w (overrides_of given) compilation analysis.values.value.settings.items)
    (task : Task) (context : TaskContext) (modules : List ModuleView) (opens : Opens) (t : IsTaskOf w compilation given base analysis settled task context modules opens)
    (k : ℕ) (view : ModuleView) (at : slice_get modules k ≡ Some view) (path : List Text) (has : HasPath w (views w compilation) (nodes w compilation) k path) where
  abbrev n : IsNumberedWorld w compilation
  n = t.resolvable.numbered

  abbrev none_left_out : Bool
  none_left_out = context.config.now.no_dependencies

  abbrev defined : Definitions
  defined = defined_by w compilation t.resolvable.numbered given base analysis t.known settled context.config.now

  abbrev pub Open : VariableName → Type 0
  Open = IsOpened (defined_by w compilation t.resolvable.numbered given base analysis t.known settled context.config.now) context.config.now.no_dependencies (map (name_at compilation analysis.table.value) (called_by task))

  abbrev v : IsViewOf compilation.modules.items analysis.variables analysis.values.value k (seen view)
  v = ordering.v w compilation given base analysis settled task context modules opens t k view at path has

  abbrev node : ModuleNode
  node = v.node

  abbrev lists : ModuleLists
  lists = v.lists

  abbrev assignments : List AssignmentRef
  assignments = v.lists.assignments.items

  kept_are : variables_in assignments ≡ variables_at compilation node.assignments.items
  kept_are = ordering.kept_are w compilation given base analysis settled task context modules opens t k view at path has

  abbrev home : ModuleReads
  home = (ordering.reads_here w compilation given base analysis settled task context modules opens t k view at path has).0

  home_there : slice_get analysis.variables.reads.items k ≡ Some home
  home_there = (ordering.reads_here w compilation given base analysis settled task context modules opens t k view at path has).1

  abbrev graph : List (List ℕ)
  graph = rows home.graph.items

  reads_are : IsReads analysis.values.value.overrides lists home
  reads_are = ordering.reads_are w compilation given base analysis settled task context modules opens t k view at path has

  graph_is : IsGraphOf compilation node graph
  graph_is = ordering.graph_is w compilation given base analysis settled task context modules opens t k view at path has

  graph_few : length graph ≤ 2 ^ 64
  graph_few = ordering.graph_few w compilation given base analysis settled task context modules opens t k view at path has

  graph_many : length assignments ≤ length graph
  graph_many = ordering.graph_many w compilation given base analysis settled task context modules opens t k view at path has

  resolver_is : IsResolverOf (kept_by compilation node) home.resolver
  resolver_is = subst (λ x. IsResolverOf x home.resolver) (kept_here compilation base given analysis t.known k node lists v.here v.kept) reads_are.resolver

  reads_many : length compilation.modules.items ≤ length analysis.variables.reads.items
  reads_many =
      let many = lists_many compilation base given analysis t.known in
      let counted = t.known.is_known.variables_are.of.reads.many in
      omega (arith, many, counted)

  path_here : path_in compilation.modules.items k ≡ path
  path_here = path_is w compilation n.of k path has

  abbrev settings : List Settings
  settings = analysis.values.value.settings.items

  -- ---- variables that open whether or not something reads them

  row : (lent : AssignmentRef) (c : Contains assignments lent)
      → kept.HasVariableRow w compilation n k node v.here path has assignments kept_are lent (key_at compilation (kept.stands w compilation n k node v.here path has assignments kept_are lent c).place)
  row lent c = kept.variable_row w compilation n k node v.here path has assignments kept_are given lent c

  module_row : HasRow w (overrides_of given) compilation analysis.values.value settled context.config.now k path view
  module_row = row_of_view w compilation given base analysis settled task context modules opens t k view at path has

  exports_is : (lent : AssignmentRef) → Contains assignments lent → is_exported defined (named path (name_of lent)) ≡ lent.assignment.now.export || view.settings.now.export
  exports_is lent c =
      ap (λ x. variable_says x (λ (r : VariableRow). r.export || module_says (defined.inside path) (λ (m : ModuleRow). m.export))) (row lent c).is
      ∙ ap₂ (λ a b. a || b) (row lent c).export (ap (λ m. module_says m (λ (x : ModuleRow). x.export)) module_row.is ∙ module_row.export)

  settings_are : v.settings ≡ view.settings.now
  settings_are = settings_in compilation.modules.items analysis.variables analysis.values.value k (seen view) v

  all_is : exports_all (slice_get settings k) ≡ view.settings.now.export
  all_is = ap exports_all v.set ∙ ap (λ (s : Settings). s.export) settings_are

  abbrev all : Bool
  all = exports_all (slice_get settings k)

  anyway_open : (lent : AssignmentRef) → Contains assignments lent → is_wanted_anyway all lent.assignment.now ≡ true → Open (named path (name_of lent))
  anyway_open lent c wanted = by_eager lent.assignment.now.eager refl
    where
      by_eager : (b : Bool) → lent.assignment.now.eager ≡ b → Open (named path (name_of lent))
      by_eager true e = opening.eager (row lent c).is ((row lent c).eager ∙ e)
      by_eager false e =
          let exported : (lent.assignment.now.export || all) ≡ true = subst (λ (b : Bool). (b || lent.assignment.now.export || all) ≡ true) e wanted in
          opening.exported (row lent c).is (exports_is lent c ∙ ap (λ b. lent.assignment.now.export || b) (sym all_is) ∙ exported)

  wanted_eager : (lent : AssignmentRef) → lent.assignment.now.eager ≡ true → is_wanted_anyway all lent.assignment.now ≡ true
  wanted_eager lent e = ap (λ b. b || lent.assignment.now.export || all) e

  wanted_exported : (lent : AssignmentRef) → (lent.assignment.now.export || all) ≡ true → is_wanted_anyway all lent.assignment.now ≡ true
  wanted_exported lent e = by_eager lent.assignment.now.eager
    where
      by_eager : (b : Bool) → (b || lent.assignment.now.export || all) ≡ true
      by_eager true = refl
      by_eager false = e

  -- ---- what opens by places opens by names

  abbrev IsRead : ℕ → Type 0
  IsRead = IsReadByRecipe analysis.table.value.recipes.items none_left_out (called_by task) k

  abbrev OpensAt : ℕ → Type 0
  OpensAt = places.IsOpened (exports_all (slice_get settings k)) lists home IsRead

  abbrev ReadsPlace : (rank : ℕ) (recipe : ResolvedRecipe) → slice_get analysis.table.value.recipes.items rank ≡ Some recipe → recipe.module ≡ k → ℕ → Type 0
  ReadsPlace rank recipe here same =
      recipes.ReadsPlace w compilation n analysis.variables.reads.items analysis.table.value reads_many t.known.recipes_are rank recipe here k node v.here same home home_there graph graph_is resolver_is graph_few path has given assignments kept_are

  -- the variable at the place opens, and so does what a function there reads
  abbrev Good : ℕ → Type 0
  Good place = ((lent : AssignmentRef) → slice_get assignments place ≡ Some lent → Open (named path (name_of lent)))
      × (length assignments ≤ place → (read : ℕ) (lent : AssignmentRef) → slice_get assignments read ≡ Some lent → ReadsThrough graph (length assignments) place read → Open (named path (name_of lent)))

  chain_within : (place read : ℕ) → ReadsThrough graph (length assignments) place read → place < length graph
  chain_within place read (directly needs) = slice_get_within graph place needs.row needs.here
  chain_within place read (through needs le more) = slice_get_within graph place needs.row needs.here

  -- a variable that is followed is not overridden
  free_of_text : (place : ℕ) (lent : AssignmentRef) → slice_get assignments place ≡ Some lent → is_stop home.overridden.items place ≡ false → defined.override (named path (name_of lent)) ≡ None
  free_of_text place lent e free =
      let stops = overridden_by analysis.values.value.overrides (kept_in lists).variables in
      let there = mapped (λ (x : Binding Expression). is_some (get nat_cmp analysis.values.value.overrides x.number)) (variables_in assignments) place lent.assignment.now (mapped (λ (x : AssignmentRef). x.assignment.now) assignments place lent e) in
      let stop : is_stop home.overridden.items place ≡ is_some (get nat_cmp analysis.values.value.overrides (number_of lent))
      = ap (λ xs. is_stop xs place) reads_are.overridden ∙ get_or_from_slice_get stops place (is_some (get nat_cmp analysis.values.value.overrides (number_of lent))) false there in
      kept.override_same w compilation n k node v.here path has assignments kept_are given analysis.values.value.overrides t.known.texts_are lent (contains_at assignments place lent e)
      ∙ no_text string_bytes (get nat_cmp analysis.values.value.overrides (number_of lent)) (sym stop ∙ free)

  module _ (place other : ℕ) (good : Good place) (free : is_stop home.overridden.items place ≡ false) (needs : other < length graph → Needs graph place other) where
    reads_from : (read : ℕ) (lent : AssignmentRef) → slice_get assignments read ≡ Some lent → ReadsThrough graph (length assignments) place read → Open (named path (name_of lent))
    reads_from read lent e chain = elim (leb_tells (length assignments) place) [
      | inl p ↦ good.1 p.1 read lent e chain
      | inr p ↦
          let lt = p.1 in
          let q = there_within assignments place (omega (arith, lt)) in
          opening.by_variable (row lent (contains_at assignments read lent e)).is (good.0 q.0 q.1) refl (free_of_text place q.0 q.1 free)
          (reads_by_name w compilation n k node v.here path has given assignments kept_are graph graph_is defined (λ name. refl) refl place read q.0 lent q.1 e chain)
    ]

    all_good : Good other
    all_good = (
      λ lent e. let lt = slice_get_within assignments other lent e in let many = graph_many in reads_from other lent e (directly (needs (omega (arith, lt, many)))),
      λ le read lent e chain. reads_from read lent e (through (needs (chain_within other read chain)) le chain),
    )

  step : (place other : ℕ) → Good place → Contains (followed graph home.overridden.items place) other → Good other
  step place other good followed_there = by_stop (is_stop home.overridden.items place) refl followed_there
    where
      by_stop : (b : Bool) → is_stop home.overridden.items place ≡ b → Contains (followed graph home.overridden.items place) other → Good other
      by_stop true e c = absurd (contains_none [] other refl (subst (λ (b : Bool). Contains (if b then [] else leads_of graph place) other) e c))
      by_stop false e c =
          let x = row_of graph place other (subst (λ (b : Bool). Contains (if b then [] else leads_of graph place) other) e c) in
          all_good place other good e (λ lt. record { row = x.0; here = x.1; listed = x.2; there = lt })

  module _ (single : AttributesStandOnce compilation) (there : (place : ℕ) → Contains (called_by task) place → place < length analysis.table.value.recipes.items) where
    recipe_open : (place : ℕ) (h : IsRead place) (lent : AssignmentRef) (j : ℕ) → slice_get assignments j ≡ Some lent → ReadsPlace h.place h.recipe h.here h.inside j → Open (named path (name_of lent))
    recipe_open place h lent j e read =
        let reads_it = recipes.reads_by_name w compilation n analysis.variables.reads.items analysis.table.value reads_many t.known.recipes_are h.place h.recipe h.here k node v.here h.inside home home_there graph graph_is resolver_is graph_few
        path has given assignments kept_are j lent e defined (λ x. refl) refl path_here
        (recipes.attributes_once w compilation n analysis.variables.reads.items analysis.table.value reads_many t.known.recipes_are h.place h.recipe h.here k node v.here h.inside home home_there graph graph_is resolver_is graph_few single) read in
        opening.by_recipe (row lent (contains_at assignments j lent e)).is
        (to_reached w compilation n analysis.variables.reads.items analysis.table.value reads_many t.known.recipes_are defined (λ x. refl) (overrides_of given) none_left_out (called_by task) there h.runs)
        (recipes.name_path w compilation n analysis.variables.reads.items analysis.table.value reads_many t.known.recipes_are h.place h.recipe h.here k node v.here h.inside home home_there graph graph_is resolver_is graph_few
        path has given assignments kept_are j lent e defined (λ x. refl) refl path_here)
        reads_it

    to_open : {place : ℕ} → OpensAt place → Good place
    to_open (places.anyway {place} variable e wanted) = (
      λ lent f. subst (λ (x : AssignmentRef). Open (named path (name_of x))) (same_Some variable lent (sym e ∙ f)) (anyway_open variable (contains_at assignments place variable e) wanted),
      λ le read lent f chain. let lt = slice_get_within assignments place variable e in absurd (omega (arith, le, lt)),
    )
    to_open (places.by_recipe {place} h) = (λ lent e. recipe_open place h lent place e (inl h.reads), λ le read lent e chain. recipe_open place h lent read e (inr (place, h.reads, le, chain)))
    to_open (places.by_variable {place} {other} o c) = step place other (to_open o) c

    -- a variable that a run evaluates opens
    pub evaluated_opens : (lent : AssignmentRef) → Contains assignments lent → IsEvaluated analysis.variables analysis.table.value.recipes.items settings (called_by task) none_left_out (number_of lent) → Open (named path (name_of lent))
    evaluated_opens lent c e =
        let p = place_of assignments lent c in
        let o = opened_here analysis.values.value.overrides w compilation n analysis.variables t.known.is_known.variables_are analysis.table.value.recipes.items settings (called_by task) none_left_out k lists home v.kept home_there
        p.0 (number_of lent) (mapped number_of assignments p.0 lent p.1) e in
        (to_open o).0 lent p.1

    -- ---- what opens by names is evaluated

    module _ (lazy : view.settings.now.lazy ≡ true) (is_read : ℕ → Bool) (evaluated : AreEvaluated analysis.variables analysis.table.value.recipes.items settings (called_by task) none_left_out is_read) where
      anyway_read : (lent : AssignmentRef) → Contains assignments lent → is_wanted_anyway all lent.assignment.now ≡ true → is_read (number_of lent) ≡ true
      anyway_read lent c wanted =
          let p = place_of assignments lent c in
          let lt = slice_get_within assignments p.0 lent p.1 in
          let many = graph_many in
          let long = length-map home.graph.items (λ x. x.items) in
          (evaluated (number_of lent)).1 (record {
            home = k;
            lists = lists;
            kept = v.kept;
            reads = home;
            known = home_there;
            opened = record { place = p.0; here = mapped number_of assignments p.0 lent p.1; there = omega (arith, lt, many, long); opened = places.anyway lent p.1 wanted };
          })

      recipe_read : (x : RecipeName) (q : Ran w compilation n analysis.variables.reads.items analysis.table.value reads_many t.known.recipes_are defined (λ x. refl) (overrides_of given) none_left_out (called_by task) there x) → x.path ≡ path
          → (lent : AssignmentRef) → Contains assignments lent → RecipeReads defined x (name_of lent) → is_read (number_of lent) ≡ true
      recipe_read x q same lent c reads_it = by_place read
        where
          p : (i : ℕ) × (slice_get assignments i ≡ Some lent)
          p = place_of assignments lent c

          kept_home : ℕ
          kept_home = (ranked.r w compilation n analysis.variables.reads.items analysis.table.value reads_many t.known.recipes_are q.place q.recipe q.here).kept.0

          own_path : path_in compilation.modules.items kept_home ≡ path
          own_path = sym (ap (λ (y : RecipeName). y.path) (ranked.called_so w compilation n analysis.variables.reads.items analysis.table.value reads_many t.known.recipes_are q.place q.recipe q.here)) ∙ ap (λ (y : RecipeName). y.path) q.named ∙ same

          homes : kept_home ≡ k
          homes =
              n.of.once kept_home k path
              (subst (HasPath w (views w compilation) (nodes w compilation) kept_home) own_path (ranked.has_path w compilation n analysis.variables.reads.items analysis.table.value reads_many t.known.recipes_are q.place q.recipe q.here)) has

          inside : q.recipe.module ≡ k
          inside = ranked.home_is w compilation n analysis.variables.reads.items analysis.table.value reads_many t.known.recipes_are q.place q.recipe q.here ∙ homes

          read : ReadsPlace q.place q.recipe q.here inside p.0
          read =
              recipes.reads_at_place w compilation n analysis.variables.reads.items analysis.table.value reads_many t.known.recipes_are q.place q.recipe q.here k node v.here inside home home_there graph graph_is resolver_is graph_few
              path has given assignments kept_are p.0 lent p.1 defined (λ y. refl) refl path_here (subst (λ y. RecipeReads defined y (name_of lent)) (sym q.named) reads_it)

          from : AreReadFrom lists home q.recipe.reads.items is_read
          from = running_are_read analysis.values.value.overrides compilation analysis.variables t.known.is_known.variables_are analysis.table.value.recipes.items settings (called_by task) none_left_out is_read evaluated q.place q.recipe q.here q.runs
              lists home (ap (slice_get analysis.variables.lists.items) inside ∙ v.kept) (ap (slice_get analysis.variables.reads.items) inside ∙ home_there)

          by_place : ReadsPlace q.place q.recipe q.here inside p.0 → is_read (number_of lent) ≡ true
          by_place (inl d) = from.variable p.0 (number_of lent) d (mapped number_of assignments p.0 lent p.1)
          by_place (inr (function, d, le, chain)) = from.function function p.0 (number_of lent) d le chain (mapped number_of assignments p.0 lent p.1)

      -- the name of a variable of the module
      name_is : (x : VariableName) → x.path ≡ path → (lent : AssignmentRef) → name_of lent ≡ x.name → x ≡ named path (name_of lent)
      name_is x same lent is = ap₂ named same (sym is)

      row_same : (x : VariableName) (found : VariableRow) → defined.variable x ≡ Some found → x.path ≡ path → (lent : AssignmentRef) (c : Contains assignments lent) → name_of lent ≡ x.name → (row lent c).row ≡ found
      row_same x found e same lent c is = same_Some (row lent c).row found (sym (row lent c).is ∙ ap defined.variable (sym (name_is x same lent is)) ∙ e)

      -- a variable that opens is read
      pub opened_read : {x : VariableName} → Open x → x.path ≡ path → (lent : AssignmentRef) → Contains assignments lent → name_of lent ≡ x.name → is_read (number_of lent) ≡ true
      opened_read (opening.not_lazy {x} {row = found} e not_lazy) same lent c is =
          let says : module_says (defined.inside path) (λ (m : ModuleRow). m.lazy) ≡ true = ap (λ o. module_says o (λ (m : ModuleRow). m.lazy)) module_row.is ∙ module_row.lazy ∙ lazy in
          absurd (true≢false (sym says ∙ ap (λ p. module_says (defined.inside p) (λ (m : ModuleRow). m.lazy)) (sym same) ∙ not_lazy))
      opened_read (opening.eager {x} {row = found} e is_eager) same lent c is =
          anyway_read lent c (wanted_eager lent (sym (row lent c).eager ∙ ap (λ (y : VariableRow). y.eager) (row_same x found e same lent c is) ∙ is_eager))
      opened_read (opening.exported {x} {row = found} e exported) same lent c is =
          anyway_read lent c (wanted_exported lent (ap (λ b. lent.assignment.now.export || b) all_is ∙ sym (exports_is lent c) ∙ ap (is_exported defined) (sym (name_is x same lent is)) ∙ exported))
      opened_read (opening.by_recipe {x} {row = found} {r = y} e reached paths reads_it) same lent c is =
          recipe_read y (from_reached w compilation n analysis.variables.reads.items analysis.table.value reads_many t.known.recipes_are defined (λ z. refl) (overrides_of given) none_left_out (called_by task) there reached) (paths ∙ same) lent c
          (subst (RecipeReads defined y) (sym is) reads_it)
      opened_read (opening.by_variable {x} {y} {row = found} e opened paths free reads_it) same lent c is =
          let names_same : y ≡ named path y.name = ap (λ p. named p y.name) (paths ∙ same) in
          let d = defines w compilation n k node v.here path has given assignments kept_are y.name reads_it.row (ap defined.variable (sym names_same) ∙ reads_it.there) in
          let other = d.0 in
          let whole : y ≡ named path (name_of other) = name_is y (paths ∙ same) other d.2 in
          let p = place_of assignments lent c in
          let q = place_of assignments other d.1 in
          let none : overridden analysis.values.value.overrides (number_of other) ≡ None
          = sym (kept.override_same w compilation n k node v.here path has assignments kept_are given analysis.values.value.overrides t.known.texts_are other d.1) ∙ ap defined.override (sym whole) ∙ free in
          let chain = reads_by_place w compilation n k node v.here path has given assignments kept_are graph graph_is graph_few defined (λ name. refl) refl q.0 p.0 other lent q.1 p.1
          (subst (λ z. VariableReads defined z (name_of lent)) whole (subst (VariableReads defined y) (sym is) reads_it)) in
          evaluated_are_closed analysis.values.value.overrides w compilation n analysis.variables t.known.is_known.variables_are analysis.table.value.recipes.items settings (called_by task) none_left_out is_read evaluated k lists home v.kept home_there
          q.0 p.0 (number_of other) (number_of lent) (mapped number_of assignments q.0 other q.1) (mapped number_of assignments p.0 lent p.1) (opened_read opened (paths ∙ same) other d.1 d.2) none chain

    -- ---- which variables are wanted

    wants : IsWanted analysis.variables analysis.table.value.recipes.items settings task none_left_out (option_map (λ numbers. numbers.now) opens.wanted)
    wants = subst (λ wanted. IsWanted analysis.variables analysis.table.value.recipes.items settings task none_left_out (option_map (λ numbers. numbers.now) wanted)) (sym t.opens_are.wanted) t.prepared.wanted_are

    -- the variables of the module are wanted that open, where a task doesn't ask for all values
    pub wanted_open : wants_all settings task ≡ not (is_lazy settings) → (lent : AssignmentRef) → Contains view.assignments.now lent → (is_wanted opens view (number_of lent) ≡ true) ↔ Open (named path (name_of lent))
    wanted_open asks lent c = by_lazy view.settings.now.lazy refl
      where
        listed : Contains assignments lent
        listed = subst (λ l. Contains l lent) (ordering.listed_are w compilation given base analysis settled task context modules opens t k view at path has) c

        settings_lazy : view.settings.now.lazy ≡ true → is_lazy settings ≡ true
        settings_lazy lazy = any_true (λ (s : Settings). s.lazy) settings v.settings (contains_at settings k v.settings v.set) (ap (λ (s : Settings). s.lazy) settings_are ∙ lazy)

        by_wanted : (wanted : Option (Bor (BTreeSet ℕ))) → view.settings.now.lazy ≡ true → IsWanted analysis.variables analysis.table.value.recipes.items settings task none_left_out (option_map (λ numbers. numbers.now) wanted)
            → (reads wanted (number_of lent) ≡ true) ↔ Open (named path (name_of lent))
        by_wanted None lazy h = absurd (true≢false (sym h ∙ asks ∙ ap not (settings_lazy lazy)))
        by_wanted (Some numbers) lazy h = (λ is. evaluated_opens lent listed ((h.1 (number_of lent)).0 is), λ o. opened_read lazy (reads (Some numbers)) h.1 o refl lent listed refl)

        by_lazy : (b : Bool) → view.settings.now.lazy ≡ b → (reads (if view.settings.now.lazy then opens.wanted else None) (number_of lent) ≡ true) ↔ Open (named path (name_of lent))
        by_lazy true e = subst (λ (b : Bool). (reads (if b then opens.wanted else None) (number_of lent) ≡ true) ↔ Open (named path (name_of lent))) (sym e) (by_wanted opens.wanted e wants)
        by_lazy false e =
            ordering.all_open w compilation given base analysis settled task context modules opens t k view at path has Open
            (λ x row same there. opening.not_lazy there (ap (λ p. module_says (defined.inside p) (λ (m : ModuleRow). m.lazy)) same ∙ ordering.row_not_lazy w compilation given base analysis settled task context modules opens t k view at path has e))
            (ordering.all_read w compilation given base analysis settled task context modules opens t k view at path has e) lent c
