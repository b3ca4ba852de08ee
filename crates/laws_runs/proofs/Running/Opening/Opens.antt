-- One module opens by names where it opens by its place, and so do all.
use Rattle.std.proofs.Common.{◌≡◌, Bool, refl, sym, ◌∙◌, ap, subst, List, [], ◌∷◌, map, Option, Some, None, Result, Ok, Err, ℕ}
use Rattle.std.specs.Prelude.{slice_get}
use Rattle.std.specs.List.Sorted.{IsStrictlySortedBy}
use Rattle.std.specs.Option.{option_map}
use Rattle.std.specs.String.{string_bytes}
use Rattle.std.proofs.lemmas.Option.{same_Some}
use Rattle.just_host.specs.declared.config.Config.{Config}
use Rattle.just_host.specs.declared.entry.Entry.{Entry}
use Rattle.just_host.specs.declared.job.Pair.{Pair}
use Rattle.just_value.specs.Constants.{constant_rows}
use Rattle.just_value.specs.Frames.{BindsRows, BoundRow, ByNumber, Frames}
use Rattle.just_value.specs.declared.positional.Override.{Override}
use Rattle.evaluate_context.specs.Surroundings.{by_name}
use Rattle.evaluate_context.specs.declared.context.ExecutionContext.{ExecutionContext}
use Rattle.evaluate_context.specs.declared.context.ModuleView.{ModuleView}
use Rattle.evaluate_variables.specs.Known.{VariablesKnown}
use Rattle.evaluate_variables.specs.Opened.{OpensInside, framed, ordered}
use Rattle.modules_compilation.specs.declared.compilation.Compilation.{Compilation}
use Rattle.modules_compilation.specs.declared.module_node.ModuleNode.{ModuleNode}
use Rattle.resolve_analysis.specs.Views.{seen, view_at}
use Rattle.resolve_analysis.specs.declared.analysis.Analysis.{Analysis}
use Rattle.just_resolve.specs.Settling.{folder_of}
use Rattle.analyze_calls.specs.Opening as placed
use Rattle.analyze_calls.specs.Opening.{OpenedRow, is_wanted, request_if_any}
use Rattle.analyze_calls.specs.declared.opening.Opening.{Opening as Opens}
use Rattle.run_tasks.specs.Prepared.Wanted.{IsWanted}
use Rattle.run_tasks.specs.declared.task.Task.{Task}
use Rattle.run_tasks.specs.declared.task.TaskContext.{TaskContext}
use Rattle.meaning_dialogues.specs.Dialogue.{Reading}
use Rattle.meaning_dialogues.specs.Evaluation.{Stage}
use Rattle.meaning_dialogues.specs.Faults.{Fault}
use Rattle.meaning_evaluation.specs.Stages.Assigned.{Assigned, Assigns, all, skipped}
use Rattle.meaning_evaluation.specs.Stages.Assigned as assigns
use Rattle.meaning_evaluation.specs.Requests.{OpeningFailure, Requests}
use Rattle.meaning_rules.specs.Worlds.Given.{Text, World}
use Rattle.meaning_rules.specs.Worlds.Compiled.{HasPath}
use Rattle.laws_modules.specs.Names.Names.{nodes, views}
use Rattle.meaning_rules.specs.Overrides.{overrides_of}
use Rattle.meaning_evaluation.specs.Named.{Definitions, ModuleRow, VariableName}
use Rattle.meaning_evaluation.specs.Scopes.{Configuration}
use Rattle.just_meaning.specs.Opening.{Fills, IsOrder, Opened, OpensAll, OpensOne}
use Rattle.just_meaning.specs.Opening as named
use Rattle.laws_runs.specs.Settings.Settled.{AllSettle}
use Rattle.laws_runs.specs.Views.Known.{IsSeenAt}
use Rattle.laws_runs.specs.Views.Recipes.{AreBoundIn, IsConstantOrRead}
use Rattle.laws_runs.proofs.Views.Opened.{opened_are_bound}
use Rattle.just_meaning.specs.Configured.{configuration_of}
use Rattle.laws_runs.specs.Running.Opened.{IsTaskOf}
use Rattle.laws_runs.proofs.Running.Opening.Filled.{read_names}
use Rattle.laws_runs.proofs.Running.Opening.Context.{EndsSo, FunctionsAgree, IsReady, defined_by, module_in_context}
use Rattle.laws_runs.proofs.Running.Opening.Requests.{HasRow, functions_in, has_row, listed_in, ordered_in, view_parts}
use Rattle.laws_runs.proofs.Running.Opening.Values.{HoldAlike}
use Rattle.laws_runs.proofs.Running.Opening.Views.{folders_are, view_there}
use Rattle.laws_runs.proofs.Running.Opening.Wanted.{names_known}

-- an empty frame is sorted
none_sorted : ByNumber []
unfolding IsStrictlySortedBy
none_sorted = tt

-- frames stay sorted as variables are assigned
assigned_sorted : {outer : List (List BoundRow)} {stage_with : List BoundRow → Stage} {reading_with : List BoundRow → Reading} {export : Bool} {overrides : ℕ → Option (List ℕ)} {is_read : ℕ → Bool}
    {variables : List Assigned} {own last : List BoundRow} {old new : List Entry} {fault : Option Fault} → Assigns outer stage_with reading_with export overrides is_read variables own old last new fault → ByNumber own → ByNumber last
assigned_sorted all sorted = sorted
assigned_sorted (skipped reason rest) sorted = assigned_sorted rest sorted
assigned_sorted (assigns.opened value read none goes rebinds next_sorted rest) sorted = assigned_sorted rest next_sorted
assigned_sorted (assigns.refused read none goes) sorted = sorted

module _ (w : World) (compilation : Compilation) (given : List Override) (base : Text) (analysis : Analysis) (settled : AllSettle w (overrides_of given) compilation analysis.values.value.settings.items)
    (task : Task) (context : TaskContext) (modules : List ModuleView) (opens : Opens) (t : IsTaskOf w compilation given base analysis settled task context modules opens) where
  abbrev config : Config
  config = context.config.now

  abbrev root : Text
  root = context.root.now

  abbrev defined : Definitions
  defined = defined_by w compilation t.resolvable.numbered given base analysis t.known settled context.config.now

  abbrev configuration : Configuration
  configuration = configuration_of context.config.now context.root.now w.expansion

  abbrev constants : List BoundRow
  constants = opens.constants.now.own

  module _ (k : ℕ) (view : ModuleView) (at : slice_get modules k ≡ Some view) (path : List Text) (has : HasPath w (views w compilation) (nodes w compilation) k path) where
    pub viewed : view_at compilation.modules.items analysis.variables analysis.values.value k ≡ Some (seen view)
    viewed = view_there compilation base given analysis t.known modules t.views k view at

    -- the row of the module
    pub row_of_view : HasRow w (overrides_of given) compilation analysis.values.value settled context.config.now k path view
    row_of_view =
        has_row w (overrides_of given) compilation analysis.values.value settled context.config.now analysis.variables t.resolvable.numbered.of t.resolvable.numbered.single
        (subst (λ (b : Text). analysis.values.value.folders.items ≡ map (λ (node : ModuleNode). folder_of b node.source.now) compilation.modules.items) t.base_is (folders_are compilation base given analysis t.known))
        k path has view (view_parts compilation.modules.items analysis.variables analysis.values.value k (seen view) viewed)

    -- a context that has what the view has
    seen_in_context : (here : ExecutionContext) → here.module.now ≡ view → IsSeenAt analysis.variables k here
    seen_in_context here same =
        let v = view_parts compilation.modules.items analysis.variables analysis.values.value k (seen view) viewed in
        record {
          lists = v.lists;
          lists_there = v.kept;
          order = v.order;
          order_there = v.ordered;
          assignments = ap (λ (m : ModuleView). m.assignments.now) same ∙ listed_in compilation.modules.items analysis.variables analysis.values.value k (seen view) v;
          functions = ap (λ (m : ModuleView). m.functions.now) same ∙ functions_in compilation.modules.items analysis.variables analysis.values.value k (seen view) v;
          evaluation_order = ap (λ (m : ModuleView). m.evaluation_order.now) same ∙ ordered_in compilation.modules.items analysis.variables analysis.values.value k (seen view) v;
        }

    module _ (pairs : List Pair) (here : ExecutionContext) (is : placed.IsContextOf opens view pairs here) where
      config_same : here.config.now ≡ context.config.now
      config_same = is.config ∙ t.opens_are.config

      root_same : here.root.now ≡ context.root.now
      root_same = is.root ∙ t.opens_are.root

      overrides_same : here.overrides.now ≡ analysis.values.value.overrides
      overrides_same = is.overrides ∙ t.opens_are.overrides ∙ t.overrides

      own_same : here.scope.now.own ≡ opens.constants.now.own
      own_same = ap (λ (frames : Frames). frames.own) is.scope

      language : BindsRows constant_rows here.scope.now.own
      language = subst (BindsRows constant_rows) (sym own_same) t.opens_are.constants

      names : VariablesKnown here (is_wanted opens view)
      names =
          names_known w compilation t.resolvable.numbered base given analysis t.known task context.config.now.no_dependencies k here (seen_in_context here is.module_is) language overrides_same view.settings.now.lazy opens.wanted
          (subst (λ wanted. IsWanted analysis.variables analysis.table.value.recipes.items analysis.values.value.settings.items task context.config.now.no_dependencies (option_map (λ numbers. numbers.now) wanted)) (sym t.opens_are.wanted) t.prepared.wanted_are)

      ready : IsReady w compilation t.resolvable.numbered given base analysis t.known settled k path has pairs (is_wanted opens view) here
      ready = record {
        view = viewed ∙ ap (λ (m : ModuleView). Some (seen m)) (sym is.module_is);
        overrides = overrides_same;
        language = language;
        sorted = subst ByNumber (sym own_same) t.opens_are.sorted;
        alone = ap (λ (frames : Frames). frames.outer) is.scope ∙ t.opens_are.alone;
        base_is = t.base_is ∙ ap (λ (c : Config). string_bytes c.base) (sym config_same);
        pairs_are = is.pairs_are;
        names = names;
      }

      abbrev Family : Config → Text → ModuleView → List BoundRow → List Entry → List Entry → Option Fault → Type 0
      Family = EndsSo w compilation t.resolvable.numbered given base analysis t.known settled k path has pairs (is_wanted opens view)

      -- the module's variables end by names as they end by places
      ends_by_name : FunctionsAgree w compilation t.resolvable.numbered given base analysis t.known settled k path has pairs (is_wanted opens view) opens.constants.now.own view
          → (own : List BoundRow) (old new : List Entry) (fault : Option Fault) → OpensInside here (is_wanted opens view) old own new fault
          → EndsSo w compilation t.resolvable.numbered given base analysis t.known settled k path has pairs (is_wanted opens view) context.config.now context.root.now view own old new fault
      ends_by_name functions own old new fault inside =
          let agree = subst (λ rows. FunctionsAgree w compilation t.resolvable.numbered given base analysis t.known settled k path has pairs (is_wanted opens view) rows here.module.now) (sym own_same)
          (subst (FunctionsAgree w compilation t.resolvable.numbered given base analysis t.known settled k path has pairs (is_wanted opens view) opens.constants.now.own) (sym is.module_is) functions) in
          subst (λ (c : Config). Family c context.root.now view own old new fault) config_same
          (subst (λ (r : Text). Family here.config.now r view own old new fault) root_same
          (subst (λ (m : ModuleView). Family here.config.now here.root.now m own old new fault) is.module_is
          (module_in_context w compilation t.resolvable.numbered given base analysis t.known settled k path has pairs (is_wanted opens view) here ready agree own old new fault inside)))

      -- the constants are bound, and the variables that are read
      bound_inside : (own : List BoundRow) (old new : List Entry) → OpensInside here (is_wanted opens view) old own new None
          → AreBoundIn (IsConstantOrRead (view_parts compilation.modules.items analysis.variables analysis.values.value k (seen view) viewed).lists (is_wanted opens view)) (framed (opens.constants.now.own ∷ opens.constants.now.outer) own)
      unfolding seen_in_context
      bound_inside own old new inside =
          subst
          (λ (frames : Frames). AreBoundIn (IsConstantOrRead (view_parts compilation.modules.items analysis.variables analysis.values.value k (seen view) viewed).lists (is_wanted opens view)) (framed (frames.own ∷ frames.outer) own)) is.scope
          (opened_are_bound analysis.values.value.overrides compilation analysis.variables t.known.is_known.variables_are k here (seen_in_context here is.module_is) language (is_wanted opens view) old new
          (framed (here.scope.now.own ∷ here.scope.now.outer) own) (refl, inside))

    -- ---- the module opens

    -- what was opened by its place was opened by names
    pub record IsOpenedSo (row : OpenedRow) (o : Opened) : Type 0 where
      pub place : row.place ≡ k
      pub path_is : o.path ≡ path
      pub pairs : row.pairs ≡ by_name o.pairs
      pub outer : row.frames.outer ≡ opens.constants.now.own ∷ []
      pub alike : HoldAlike view.assignments.now view.settings.now.export row.frames.own o.values
      pub sorted : ByNumber row.frames.own
      pub bound : AreBoundIn (IsConstantOrRead (view_parts compilation.modules.items analysis.variables analysis.values.value k (seen view) viewed).lists (is_wanted opens view)) row.frames

    module _ (Open : VariableName → Type 0) where
      abbrev pub OneByName : List Entry → List Entry → Result OpenedRow OpeningFailure → Type 0
      OneByName old new (Ok row) = (o : Opened) × OpensOne (configuration_of context.config.now context.root.now w.expansion) (defined_by w compilation t.resolvable.numbered given base analysis t.known settled context.config.now) Open path old new (Ok o) × IsOpenedSo row o
      OneByName old new (Err failure) = OpensOne (configuration_of context.config.now context.root.now w.expansion) (defined_by w compilation t.resolvable.numbered given base analysis t.known settled context.config.now) Open path old new (Err failure)

      -- what is asked of the module that opens: its functions agree, and the names of those that are read are an order of those that open
      pub record MayOpen : Type 0 where
        pub functions : (pairs : List Pair) → FunctionsAgree w compilation t.resolvable.numbered given base analysis t.known settled k path has pairs (is_wanted opens view) opens.constants.now.own view
        pub order : IsOrder (defined_by w compilation t.resolvable.numbered given base analysis t.known settled context.config.now) Open path (read_names (is_wanted opens view) (ordered view.assignments.now view.evaluation_order.now))

      module _ (may : MayOpen) where
        pub requests : {r : Result (List Pair) OpeningFailure} (old new : List Entry) → Requests (request_if_any opens.config.now view) old new r → Requests row_of_view.row.request old new r
        requests {r} old new q = subst (λ request. Requests request old new r) (ap (λ c. request_if_any c view) t.opens_are.config ∙ sym row_of_view.request) q

        same_row : (row : ModuleRow) → (defined_by w compilation t.resolvable.numbered given base analysis t.known settled context.config.now).inside path ≡ Some row → row_of_view.row ≡ row
        same_row row e = same_Some row_of_view.row row (sym row_of_view.is ∙ e)

        pub opens_one : {old new : List Entry} {r : Result OpenedRow OpeningFailure} → placed.OpensOne opens k view old new r → OneByName old new r
        opens_one {old} {new} (placed.untold q) = named.not_told row_of_view.is (requests old new q)
        opens_one {old} {new} (placed.opened {mid} {pairs} {own} here q is inside) =
            let e = ends_by_name pairs here is (may.functions pairs) own mid new None inside in
            let asked = subst (λ (row : ModuleRow). Requests row.request old mid (Ok pairs)) (same_row e.row e.inside) (requests old mid q) in (
              record { path = path; pairs = pairs; values = e.held },
              named.opened e.inside asked may.order e.fills,
              record {
                place = refl;
                path_is = refl;
                pairs = refl;
                outer = ap (λ rest. opens.constants.now.own ∷ rest) t.opens_are.alone;
                alike = e.alike;
                sorted = assigned_sorted inside none_sorted;
                bound = bound_inside pairs here is own mid new inside;
              },
            )
        opens_one {old} {new} (placed.unfilled {mid} {pairs} {fault} here q is left) =
            let e = ends_by_name pairs here is (may.functions pairs) left.own mid new (Some fault) left.opens in
            let asked = subst (λ (row : ModuleRow). Requests row.request old mid (Ok pairs)) (same_row e.row e.inside) (requests old mid q) in
            named.refused e.inside asked may.order e.fills
