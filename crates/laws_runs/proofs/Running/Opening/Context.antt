-- A module's variables in a context of a resolved justfile.
use Rattle.std.proofs.Common.{◌≡◌, refl, sym, ◌∙◌, ap, ap₂, subst, Bool, ◌||◌, List, [], ◌∷◌, map, length, Option, Some, None, Ok, Err, ℕ, arith}
use Rattle.std.specs.Prelude.{Contains, IsSome, slice_get}
use Rattle.std.specs.List.Sorted.{IsStrictlySortedBy}
use Rattle.std.specs.String.{string_bytes}
use Rattle.std.proofs.lemmas.Option.{slice_get_within}
use Rattle.just_host.specs.declared.config.Config.{Config}
use Rattle.just_host.specs.declared.entry.Entry.{Entry}
use Rattle.just_host.specs.declared.job.Pair.{Pair}
use Rattle.just_value.specs.Constants.{constant_rows}
use Rattle.just_value.specs.Frames.{BindsRows, BoundRow, ByNumber, found_in}
use Rattle.just_value.specs.declared.positional.Override.{Override}
use Rattle.evaluate_context.specs.Environment.{variable}
use Rattle.evaluate_context.specs.Surroundings.{by_name}
use Rattle.evaluate_context.specs.declared.context.AssignmentRef.{AssignmentRef}
use Rattle.evaluate_context.specs.declared.context.ExecutionContext.{ExecutionContext}
use Rattle.evaluate_expressions.specs.Situations.{functions_in}
use Rattle.evaluate_variables.specs.Known.{VariablesKnown}
use Rattle.evaluate_variables.specs.Opened.{framed, opening_reading, opening_stage, ordered, overridden}
use Rattle.modules_compilation.specs.declared.compilation.Compilation.{Compilation}
use Rattle.modules_compilation.specs.declared.module_node.ModuleNode.{ModuleNode}
use Rattle.resolve_analysis.specs.Views.{seen, view_at}
use Rattle.resolve_analysis.specs.declared.analysis.Analysis.{Analysis}
use Rattle.resolve_analysis.specs.declared.module_reads.ModuleReads.{ModuleReads}
use Rattle.resolve_analysis.specs.Lists.{variables_at, variables_in}
use Rattle.resolve_order.specs.Needs.{rows}
use Rattle.resolve_order.specs.Reads.{IsVariableOrder}
use Rattle.laws_modules.proofs.Names.Found.{there_within}
use Rattle.just_resolve.specs.Analysis.{IsAnalysis}
use Rattle.just_resolve.specs.Settling.{folder_of}
use Rattle.meaning_dialogues.specs.Faults.{Fault}
use Rattle.meaning_dialogues.specs.Written.{term_in, unnumbered}
use Rattle.meaning_evaluation.specs.Stages.Assigned.{Assigned, Assigns}
use Rattle.meaning_rules.specs.Worlds.Given.{Text, World}
use Rattle.meaning_rules.specs.Worlds.Compiled.{HasPath}
use Rattle.laws_modules.specs.Names.Names.{nodes, views}
use Rattle.meaning_rules.specs.Overrides.{overrides_of}
use Rattle.laws_names.specs.Reading.Meant.{IsNumberedWorld}
use Rattle.meaning_evaluation.specs.Named.{Definitions, ModuleRow, VariableRow}
use Rattle.meaning_evaluation.specs.Scopes.{Configuration, defined_in}
use Rattle.meaning_evaluation.specs.Stages.Stages.{definitions}
use Rattle.laws_evaluation.specs.Soundness.Known.{IsBoundIn}
use Rattle.evaluate_context.specs.declared.context.ModuleView.{ModuleView}
use Rattle.just_meaning.specs.Opening.{Fills, Held, evaluates, is_exported, module_says, named, reading_in, side_by, side_of, text_named, variable_says}
use Rattle.laws_runs.specs.Resolved.Definitions.{definitions_of, functions_at, key_at}
use Rattle.laws_runs.specs.Settings.Settled.{AllSettle}
use Rattle.laws_evaluation.proofs.Opening.Names.{SameFunctions}
use Rattle.laws_evaluation.specs.Soundness.Opening.{InOrder, SideKnown}
use Rattle.just_meaning.specs.Configured.{configuration_of}
use Rattle.laws_runs.proofs.Running.Opening.Filled.{EndByName, read_names}
use Rattle.laws_runs.proofs.Running.Opening.Module as kept
use Rattle.laws_runs.proofs.Running.Opening.Orders.{ordered_free, ordered_lent}
use Rattle.laws_runs.proofs.Running.Opening.Requests.{HasRow, IsViewOf, has_row, listed_in, ordered_in, view_parts}
use Rattle.laws_runs.proofs.Running.Opening.Sides.{side_written}
use Rattle.laws_runs.proofs.Running.Opening.Assignments.{IsAssignment, IsSoFar, module_filled}
use Rattle.laws_runs.proofs.Running.Opening.Values.{HoldAlike, name_of, nothing_held, number_of}
use Rattle.laws_runs.proofs.Running.Opening.Views.{folders_are, variables_here}

module _ (w : World) (compilation : Compilation) (n : IsNumberedWorld w compilation) (given : List Override) (base : Text) (analysis : Analysis) (known : IsAnalysis compilation base given analysis)
    (settled : AllSettle w (overrides_of given) compilation analysis.values.value.settings.items) where
  -- what is defined by name, where the program is configured so
  abbrev pub defined_by : Config → Definitions
  defined_by config = definitions_of compilation w.expansion (overrides_of given) settled.settle (string_bytes config.base) (string_bytes config.working_directory)

  module _ (k : ℕ) (path : List Text) (has : HasPath w (views w compilation) (nodes w compilation) k path) (pairs : List Pair) (is_read : ℕ → Bool) where
    -- the variables of the module are evaluated in the context, with the constants of the language around its frame
    pub record IsReady (context : ExecutionContext) : Type 0 where
      pub view : view_at compilation.modules.items analysis.variables analysis.values.value k ≡ Some (seen context.module.now)
      pub overrides : context.overrides.now ≡ analysis.values.value.overrides
      pub language : BindsRows constant_rows context.scope.now.own
      pub sorted : ByNumber context.scope.now.own
      pub alone : context.scope.now.outer ≡ []
      pub base_is : base ≡ string_bytes context.config.now.base
      pub pairs_are : map variable context.dotenv.now.entries ≡ by_name pairs
      pub names : VariablesKnown context is_read

    -- the functions of the module are the same by numbers and by names
    abbrev pub FunctionsAgree : List BoundRow → ModuleView → Type 0
    FunctionsAgree constants view = (own : List BoundRow) (held : List Held) → HoldAlike view.assignments.now view.settings.now.export own held
        → SameFunctions (λ place x y. IsBoundIn (framed (constants ∷ []) own) x.number → opening_reading (framed (constants ∷ []) own) place x ≡ reading_in held place y) (definitions view.functions.now) (map (defined_in w.expansion) (functions_at compilation path))

    -- variables are assigned in the context
    abbrev pub AssignsIn : ExecutionContext → List (List BoundRow) → List Assigned → List Entry → List BoundRow → List Entry → Option Fault → Type 0
    AssignsIn context outer list old last new fault =
        Assigns outer (λ own. opening_stage context (framed outer own)) (λ own. opening_reading (framed outer own)) context.module.now.settings.now.export (overridden context.overrides.now) is_read list [] old last new fault

    -- the module's variables are filled by names
    pub record IsFilledSo (config : Config) (root : Text) (view : ModuleView) (own : List BoundRow) (old new : List Entry) : Type 0 where
      pub row : ModuleRow
      pub inside : (defined_by config).inside path ≡ Some row
      pub held : List Held
      pub fills : Fills (configuration_of config root w.expansion) (defined_by config) path row pairs [] (read_names is_read (ordered view.assignments.now view.evaluation_order.now)) old new (Ok held)
      pub alike : HoldAlike view.assignments.now view.settings.now.export own held

    -- or refused for a fault
    pub record IsRefusedSo (config : Config) (root : Text) (view : ModuleView) (old new : List Entry) (fault : Fault) : Type 0 where
      pub row : ModuleRow
      pub inside : (defined_by config).inside path ≡ Some row
      pub fills : Fills (configuration_of config root w.expansion) (defined_by config) path row pairs [] (read_names is_read (ordered view.assignments.now view.evaluation_order.now)) old new (Err fault)

    abbrev pub EndsSo : Config → Text → ModuleView → List BoundRow → List Entry → List Entry → Option Fault → Type 0
    EndsSo config root view own old new None = IsFilledSo config root view own old new
    EndsSo config root view own old new (Some fault) = IsRefusedSo config root view old new fault

    module _ (context : ExecutionContext) (ready : IsReady context) where
      v : IsViewOf compilation.modules.items analysis.variables analysis.values.value k (seen context.module.now)
      v = view_parts compilation.modules.items analysis.variables analysis.values.value k (seen context.module.now) ready.view

      abbrev o : List (Text × Text)
      o = overrides_of given

      abbrev defined : Definitions
      defined = defined_by context.config.now

      abbrev configuration : Configuration
      configuration = configuration_of context.config.now context.root.now w.expansion

      -- the row of the module
      h : HasRow w o compilation analysis.values.value settled context.config.now k path context.module.now
      h = has_row w o compilation analysis.values.value settled context.config.now analysis.variables n.of n.single
          (subst (λ (b : Text). analysis.values.value.folders.items ≡ map (λ (node : ModuleNode). folder_of b node.source.now) compilation.modules.items) ready.base_is (folders_are compilation base given analysis known))
          k path has context.module.now v

      abbrev assignments : List AssignmentRef
      assignments = v.lists.assignments.items

      abbrev constants : List BoundRow
      constants = context.scope.now.own

      abbrev export : Bool
      export = context.module.now.settings.now.export

      kept_are : variables_in assignments ≡ variables_at compilation v.node.assignments.items
      kept_are = variables_here compilation base given analysis known k v.node v.lists v.here v.kept

      listed_are : context.module.now.assignments.now ≡ assignments
      listed_are = listed_in compilation.modules.items analysis.variables analysis.values.value k (seen context.module.now) v

      order_are : context.module.now.evaluation_order.now ≡ v.order.items
      order_are = ordered_in compilation.modules.items analysis.variables analysis.values.value k (seen context.module.now) v

      -- what each variable reads, by places, and their order
      reads_here : (reads : ModuleReads) × (slice_get analysis.variables.reads.items k ≡ Some reads)
      reads_here =
          let many = known.is_known.variables_are.of.reads.many in
          let lt = slice_get_within analysis.variables.lists.items k v.lists v.kept in
          there_within analysis.variables.reads.items k (omega (arith, many, lt))

      order_is : IsVariableOrder (rows reads_here.0.graph.items) (length assignments) v.order.items
      order_is = known.is_known.variables_are.of.orders.each k v.order v.ordered v.lists reads_here.0 v.kept reads_here.1

      -- ---- each variable

      override_is : (lent : AssignmentRef) → Contains assignments lent → defined.override (named path (name_of lent)) ≡ overridden context.overrides.now (number_of lent)
      override_is lent c =
          kept.override_same w compilation n k v.node v.here path has assignments kept_are given analysis.values.value.overrides known.texts_are lent c
          ∙ ap (λ texts. overridden texts (number_of lent)) (sym ready.overrides)

      row_is : (lent : AssignmentRef) (c : Contains assignments lent) → kept.HasVariableRow w compilation n k v.node v.here path has assignments kept_are lent (key_at compilation (kept.stands w compilation n k v.node v.here path has assignments kept_are lent c).place)
      row_is lent c = kept.variable_row w compilation n k v.node v.here path has assignments kept_are given lent c

      side_is : (lent : AssignmentRef) (c : Contains assignments lent) → side_of configuration defined path (record { name = name_of lent; number = None })
          ≡ Some (side_written configuration (overridden context.overrides.now (number_of lent)) (key_at compilation (kept.stands w compilation n k v.node v.here path has assignments kept_are lent c).place) lent.assignment.now.value)
      side_is lent c =
          ap₂ (λ given row. side_by configuration defined path given row (text_named (name_of lent) constant_rows)) (override_is lent c) (row_is lent c).is
          ∙ by_override (overridden context.overrides.now (number_of lent))
        where
          by_override : (t : Option Text) → side_by configuration defined path t (Some (row_is lent c).row) (text_named (name_of lent) constant_rows)
              ≡ Some (side_written configuration t (key_at compilation (kept.stands w compilation n k v.node v.here path has assignments kept_are lent c).place) lent.assignment.now.value)
          by_override (Some text) = refl
          by_override None = ap₂ (λ file e. Some (evaluates (term_in w.expansion file unnumbered e))) (row_is lent c).file (row_is lent c).value

      exports_are : (lent : AssignmentRef) → Contains assignments lent → is_exported defined (named path (name_of lent)) ≡ lent.assignment.now.export || context.module.now.settings.now.export
      exports_are lent c =
          ap (λ row. variable_says row (λ (r : VariableRow). r.export || module_says (defined.inside path) (λ (m : ModuleRow). m.export))) (row_is lent c).is
          ∙ ap₂ (λ a b. a || b) (row_is lent c).export (ap (λ m. module_says m (λ (x : ModuleRow). x.export)) h.is ∙ h.export)

      each : (lent : AssignmentRef) (c : Contains assignments lent) → IsAssignment w o compilation analysis.values.value settled k path context h w.expansion defined pairs ready.pairs_are assignments constants is_read lent
      each lent c = record {
        file = key_at compilation (kept.stands w compilation n k v.node v.here path has assignments kept_are lent c).place;
        side = side_is lent c;
        cooked = kept.side_cooked w compilation n k v.node v.here path has assignments kept_are lent c;
        numbers = kept.side_numbers w compilation n k v.node v.here path has assignments kept_are lent c;
      }

      -- ---- all variables

      abbrev State : List Assigned → List BoundRow → List Held → Type 0
      State = IsSoFar w o compilation analysis.values.value settled k path context h w.expansion defined pairs ready.pairs_are assignments constants is_read

      at_first : State (ordered assignments v.order.items) [] []
      unfolding IsStrictlySortedBy
      at_first = record {
        alike = nothing_held assignments export;
        sorted = tt;
        known = subst (λ outer. InOrder (overridden context.overrides.now) is_read (SideKnown (functions_in context)) (λ m. IsSome (found_in (constants ∷ outer) m)) (ordered assignments v.order.items)) ready.alone
            (subst (λ l. InOrder (overridden context.overrides.now) is_read (SideKnown (functions_in context)) (λ m. IsSome (found_in (constants ∷ context.scope.now.outer) m)) (ordered l v.order.items)) listed_are
            (subst (λ l. InOrder (overridden context.overrides.now) is_read (SideKnown (functions_in context)) (λ m. IsSome (found_in (constants ∷ context.scope.now.outer) m)) (ordered context.module.now.assignments.now l)) order_are ready.names));
        lent = ordered_lent assignments v.order.items;
        free = ordered_free assignments (kept.one_by_number w compilation n k v.node v.here path has assignments kept_are) v.order.items (λ i j p. order_is.distinct i j p);
      }

      abbrev names : List (List ℕ)
      names = read_names is_read (ordered assignments v.order.items)

      names_are : names ≡ read_names is_read (ordered context.module.now.assignments.now context.module.now.evaluation_order.now)
      names_are = ap₂ (λ l order. read_names is_read (ordered l order)) (sym listed_are) (sym order_are)

      abbrev Ends : List BoundRow → List Entry → List Entry → Option Fault → Type 0
      Ends last old new fault =
          EndByName configuration defined path h.row pairs (constants ∷ []) (λ own. opening_stage context (framed (constants ∷ []) own)) (λ own. opening_reading (framed (constants ∷ []) own)) export (overridden context.overrides.now) is_read State [] names last old new fault

      ends_so : (last : List BoundRow) (old new : List Entry) (fault : Option Fault) → Ends last old new fault → EndsSo context.config.now context.root.now context.module.now last old new fault
      ends_so last old new None e = record {
        row = h.row;
        inside = h.is;
        held = e.held;
        fills = subst (λ names. Fills configuration defined path h.row pairs [] names old new (Ok e.held)) names_are e.fills;
        alike = subst (λ l. HoldAlike l export last e.held) (sym listed_are) e.holds.alike;
      }
      ends_so last old new (Some fault) e = record {
        row = h.row;
        inside = h.is;
        fills = subst (λ names. Fills configuration defined path h.row pairs [] names old new (Err fault)) names_are e;
      }

      -- what the module's variables come to in the context, they come to by names
      pub module_in_context : FunctionsAgree constants context.module.now → (last : List BoundRow) (old new : List Entry) (fault : Option Fault)
          → AssignsIn context (constants ∷ context.scope.now.outer) (ordered context.module.now.assignments.now context.module.now.evaluation_order.now) old last new fault
          → EndsSo context.config.now context.root.now context.module.now last old new fault
      module_in_context functions last old new fault a =
          let b = subst (λ others. AssignsIn context (constants ∷ others) (ordered assignments v.order.items) old last new fault) ready.alone
          (subst (λ l. AssignsIn context (constants ∷ context.scope.now.outer) (ordered l v.order.items) old last new fault) listed_are
          (subst (λ l. AssignsIn context (constants ∷ context.scope.now.outer) (ordered context.module.now.assignments.now l) old last new fault) order_are a)) in
          let ended = module_filled w o compilation analysis.values.value settled k path context h w.expansion defined pairs ready.pairs_are assignments constants is_read ready.language ready.sorted
          (kept.above w compilation n k v.node v.here path has assignments kept_are) (kept.apart w compilation n k v.node v.here path has assignments kept_are export) exports_are each
          (λ own held alike. functions own held (subst (λ l. HoldAlike l export own held) (sym listed_are) alike)) b at_first in
          ends_so last old new fault ended
