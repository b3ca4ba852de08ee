-- The names of a module's variables that are read, in their order, are an order of those that open.
use Rattle.std.proofs.Common.{◌≡◌, ◌↔◌, refl, sym, ◌∙◌, ap, ap₂, subst, Bool, true, false, if◌then◌else◌, List, length, Some, None, ℕ, ◌≤◌, ◌^◌, arith}
use Rattle.std.specs.Prelude.{Contains, slice_get}
use Rattle.std.proofs.lemmas.List.{length-map}
use Rattle.std.proofs.lemmas.Option.{slice_get_within}
use Rattle.just_value.specs.declared.positional.Override.{Override}
use Rattle.evaluate_context.specs.declared.context.AssignmentRef.{AssignmentRef}
use Rattle.evaluate_context.specs.declared.context.ModuleView.{ModuleView}
use Rattle.evaluate_variables.specs.Opened.{ordered, reads as reads_if}
use Rattle.modules_compilation.specs.declared.compilation.Compilation.{Compilation}
use Rattle.resolve_order.specs.Needs.{rows}
use Rattle.resolve_order.specs.Reads.{IsVariableOrder}
use Rattle.resolve_analysis.specs.Lists.{variables_at, variables_in}
use Rattle.resolve_analysis.specs.Reads.{IsResolverOf, expressions_of, rows_of}
use Rattle.resolve_analysis.specs.Views.{seen}
use Rattle.resolve_analysis.specs.declared.analysis.Analysis.{Analysis}
use Rattle.resolve_analysis.specs.declared.module_reads.ModuleReads.{ModuleReads}
use Rattle.just_resolve.specs.Variables.{IsReads}
use Rattle.analyze_calls.specs.Opening.{is_wanted}
use Rattle.analyze_calls.specs.declared.opening.Opening.{Opening as Opens}
use Rattle.run_tasks.specs.declared.task.Task.{Task}
use Rattle.run_tasks.specs.declared.task.TaskContext.{TaskContext}
use Rattle.meaning_rules.specs.Worlds.Given.{Text, World}
use Rattle.meaning_rules.specs.Worlds.Compiled.{HasPath}
use Rattle.laws_modules.specs.Names.Names.{nodes, views}
use Rattle.laws_modules.proofs.Names.Found.{there_within}
use Rattle.meaning_rules.specs.Overrides.{overrides_of}
use Rattle.laws_names.specs.Reading.Cycles.{IsGraphOf}
use Rattle.laws_names.proofs.Reading.Chains.{places_many}
use Rattle.meaning_evaluation.specs.Named.{Definitions, ModuleRow, RecipeName, VariableName, VariableRow}
use Rattle.just_meaning.specs.Opening.{IsOpened, IsOrder, module_says, named}
use Rattle.just_meaning.specs.Opening as opening
use Rattle.just_meaning.specs.Reading.{VariableReads}
use Rattle.laws_runs.specs.Settings.Settled.{AllSettle}
use Rattle.laws_runs.specs.Running.Opened.{IsTaskOf}
use Rattle.laws_runs.proofs.Running.Opening.Filled.{read_names}
use Rattle.laws_runs.proofs.Running.Opening.Module as kept
use Rattle.laws_runs.proofs.Running.Opening.Context.{defined_by}
use Rattle.laws_runs.proofs.Running.Opening.Opens.{row_of_view, viewed}
use Rattle.laws_runs.proofs.Running.Opening.Orders.{AreOpenedBy, names_in_order}
use Rattle.laws_runs.proofs.Running.Opening.Graphs.{count_same, defines, reads_by_place}
use Rattle.laws_runs.proofs.Running.Opening.Requests.{IsViewOf, listed_in, ordered_in, view_parts}
use Rattle.laws_runs.proofs.Running.Opening.Values.{name_of, number_of}
use Rattle.laws_runs.proofs.Running.Opening.Views.{kept_here, variables_here}

-- what opens has a row
pub opened_row : (defined : Definitions) (no_dependencies : Bool) (invoked : List RecipeName) (x : VariableName) → IsOpened defined no_dependencies invoked x → (row : VariableRow) × (defined.variable x ≡ Some row)
opened_row defined no_dependencies invoked x (opening.not_lazy {row} e lazy) = (row, e)
opened_row defined no_dependencies invoked x (opening.eager {row} e is) = (row, e)
opened_row defined no_dependencies invoked x (opening.exported {row} e is) = (row, e)
opened_row defined no_dependencies invoked x (opening.by_recipe {row} e reached same reads) = (row, e)
opened_row defined no_dependencies invoked x (opening.by_variable {row} e opened same free reads) = (row, e)

module _ (w : World) (compilation : Compilation) (given : List Override) (base : Text) (analysis : Analysis) (settled : AllSettle w (overrides_of given) compilation analysis.values.value.settings.items)
    (task : Task) (context : TaskContext) (modules : List ModuleView) (opens : Opens) (t : IsTaskOf w compilation given base analysis settled task context modules opens)
    (k : ℕ) (view : ModuleView) (at : slice_get modules k ≡ Some view) (path : List Text) (has : HasPath w (views w compilation) (nodes w compilation) k path) where
  abbrev defined : Definitions
  defined = defined_by w compilation t.resolvable.numbered given base analysis t.known settled context.config.now

  pub v : IsViewOf compilation.modules.items analysis.variables analysis.values.value k (seen view)
  v = view_parts compilation.modules.items analysis.variables analysis.values.value k (seen view) (viewed w compilation given base analysis settled task context modules opens t k view at path has)

  abbrev pub assignments : List AssignmentRef
  assignments = v.lists.assignments.items

  pub kept_are : variables_in assignments ≡ variables_at compilation v.node.assignments.items
  kept_are = variables_here compilation base given analysis t.known k v.node v.lists v.here v.kept

  pub reads_here : (reads : ModuleReads) × (slice_get analysis.variables.reads.items k ≡ Some reads)
  reads_here =
      let many = t.known.is_known.variables_are.of.reads.many in
      let lt = slice_get_within analysis.variables.lists.items k v.lists v.kept in
      there_within analysis.variables.reads.items k (omega (arith, many, lt))

  abbrev pub graph : List (List ℕ)
  graph = rows reads_here.0.graph.items

  pub reads_are : IsReads analysis.values.value.overrides v.lists reads_here.0
  reads_are = t.known.is_known.variables_are.of.reads.each k reads_here.0 reads_here.1 v.lists v.kept

  pub graph_is : IsGraphOf compilation v.node graph
  graph_is =
      let same = kept_here compilation base given analysis t.known k v.node v.lists v.here v.kept in
      record {
        resolver = reads_here.0.resolver;
        of = subst (λ kept. IsResolverOf kept reads_here.0.resolver) same reads_are.resolver;
        rows = ap (λ kept. rows_of reads_here.0.resolver (expressions_of kept)) (sym same) ∙ reads_are.graph;
      }

  pub graph_few : length graph ≤ 2 ^ 64
  graph_few =
      let rows_are = reads_here.0.graph in
      let many = length-map rows_are.items (λ row. row.items) in
      let is = rows_are.ok.0 in
      let room = rows_are.ok.1 in
      let small = rows_are.small in
      omega (arith, many, is, room, small)

  order_is : IsVariableOrder graph (length assignments) v.order.items
  order_is = t.known.is_known.variables_are.of.orders.each k v.order v.ordered v.lists reads_here.0 v.kept reads_here.1

  pub graph_many : length assignments ≤ length graph
  graph_many =
      let same = count_same w compilation t.resolvable.numbered k v.node v.here path has given assignments kept_are in
      let many = places_many w compilation t.resolvable.numbered k v.node v.here graph graph_is in
      omega (arith, same, many)

  pub listed_are : view.assignments.now ≡ assignments
  listed_are = listed_in compilation.modules.items analysis.variables analysis.values.value k (seen view) v

  order_are : view.evaluation_order.now ≡ v.order.items
  order_are = ordered_in compilation.modules.items analysis.variables analysis.values.value k (seen view) v

  module _ (Open : VariableName → Type 0) where
    -- what opens has a row, and so does what it reads, and that opens
    pub record AreClosed : Type 0 where
      pub row : (x : VariableName) → Open x → (row : VariableRow) × (defined.variable x ≡ Some row)
      pub closed : (x y : VariableName) (row : VariableRow) → defined.variable x ≡ Some row → Open y → y.path ≡ x.path → defined.override y ≡ None → VariableReads defined y x.name → Open x

    -- where the variables that are read are those that open, their names are an order of these
    pub order_here : AreClosed → ((lent : AssignmentRef) → Contains view.assignments.now lent → (is_wanted opens view (number_of lent) ≡ true) ↔ Open (named path (name_of lent)))
        → IsOrder (defined_by w compilation t.resolvable.numbered given base analysis t.known settled context.config.now) Open path (read_names (is_wanted opens view) (ordered view.assignments.now view.evaluation_order.now))
    order_here closed opens_is =
        subst (IsOrder defined Open path) (ap₂ (λ l order. read_names (is_wanted opens view) (ordered l order)) (sym listed_are) (sym order_are))
        (names_in_order assignments graph v.order.items order_is graph_many (is_wanted opens view) (kept.one_by_name w compilation t.resolvable.numbered k v.node v.here path has assignments kept_are) defined path Open by)
      where
        by : AreOpenedBy assignments graph (is_wanted opens view) defined path Open
        by = record {
          is = λ lent c. opens_is lent (subst (λ l. Contains l lent) (sym listed_are) c);
          variables = λ name h.
              let r = closed.row (named path name) h in
              defines w compilation t.resolvable.numbered k v.node v.here path has given assignments kept_are name r.0 r.1;
          defines = defines w compilation t.resolvable.numbered k v.node v.here path has given assignments kept_are;
          closed = λ name other row h free there reads. closed.closed (named path other) (named path name) row there h refl free reads;
          reads = λ i j lent other e f read free reads.
              reads_by_place w compilation t.resolvable.numbered k v.node v.here path has given assignments kept_are graph graph_is graph_few defined (λ name. refl) refl i j lent other e f reads;
        }

    -- where all variables of the module are read, they are those that open, where each that is defined opens
    pub all_open : ((x : VariableName) (row : VariableRow) → x.path ≡ path → defined.variable x ≡ Some row → Open x) → ((number : ℕ) → is_wanted opens view number ≡ true)
        → (lent : AssignmentRef) → Contains view.assignments.now lent → (is_wanted opens view (number_of lent) ≡ true) ↔ Open (named path (name_of lent))
    all_open each all lent c = (λ read. opened, λ h. all (number_of lent))
      where
        opened : Open (named path (name_of lent))
        opened =
            let r = kept.variable_row w compilation t.resolvable.numbered k v.node v.here path has assignments kept_are given lent (subst (λ l. Contains l lent) listed_are c) in
            each (named path (name_of lent)) r.row refl r.is

  -- all variables are read of a module that is not lazy
  pub all_read : view.settings.now.lazy ≡ false → (number : ℕ) → is_wanted opens view number ≡ true
  all_read lazy number = ap (λ b. reads_if (if b then opens.wanted else None) number) lazy

  -- and its row is not lazy
  pub row_not_lazy : view.settings.now.lazy ≡ false → module_says (defined.inside path) (λ (m : ModuleRow). m.lazy) ≡ false
  row_not_lazy lazy =
      let row = row_of_view w compilation given base analysis settled task context modules opens t k view at path has in
      ap (λ o. module_says o (λ (m : ModuleRow). m.lazy)) row.is ∙ row.lazy ∙ lazy
