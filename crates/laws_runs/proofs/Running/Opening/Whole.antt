-- Tasks of a resolved justfile open modules by names.
use Rattle.std.proofs.Common.{◌≡◌, ◌↔◌, refl, sym, ◌∙◌, ap, subst, Bool, true, false, true≢false, if◌then◌else◌, length, ◌<◌, List, [], ◌∷◌, map, Option, Some, None, ℕ}
use Rattle.std.specs.Prelude.{Contains, slice_get}
use Rattle.std.specs.Borrow.{Bor}
use Rattle.std.specs.BTreeSet.{BTreeSet}
use Rattle.std.specs.Option.{option_map}
use Rattle.just_host.specs.declared.entry.Entry.{Entry}
use Rattle.just_host.specs.declared.job.Pair.{Pair}
use Rattle.just_value.specs.declared.positional.Override.{Override}
use Rattle.evaluate_context.specs.declared.context.AssignmentRef.{AssignmentRef}
use Rattle.evaluate_context.specs.declared.context.FunctionRef.{FunctionRef}
use Rattle.evaluate_context.specs.declared.context.ModuleView.{ModuleView}
use Rattle.evaluate_variables.specs.Opened.{framed, opening_reading, reads}
use Rattle.modules_compilation.specs.Modulepaths.{path_in}
use Rattle.modules_compilation.specs.declared.compilation.Compilation.{Compilation}
use Rattle.resolve_analysis.specs.Lists.{Kept}
use Rattle.resolve_analysis.specs.Lists as lists
use Rattle.resolve_analysis.specs.Views.{seen}
use Rattle.resolve_analysis.specs.declared.analysis.Analysis.{Analysis}
use Rattle.analyze_calls.specs.Calls.{row_of}
use Rattle.analyze_calls.specs.Opening.{is_wanted}
use Rattle.analyze_calls.specs.declared.call.Call.{Call}
use Rattle.analyze_calls.specs.declared.opening.Opening.{Opening as Opens}
use Rattle.run_tasks.specs.Prepared.Wanted.{IsWanted, called_by, wants_all}
use Rattle.run_tasks.specs.declared.task.Task.{Task}
use Rattle.run_tasks.specs.declared.task.Task.TheVariants.{Command, Evaluate, Run}
use Rattle.run_tasks.specs.declared.task.TaskContext.{TaskContext}
use Rattle.meaning_evaluation.specs.Stages.Stages.{defined_of, definitions}
use Rattle.laws_evaluation.proofs.Opening.Names.{SameFunctions}
use Rattle.laws_evaluation.specs.Soundness.Known.{IsBoundIn}
use Rattle.meaning_rules.specs.Worlds.Given.{Text, World}
use Rattle.meaning_rules.specs.Worlds.Compiled.{HasPath}
use Rattle.meaning_rules.proofs.Worlds.Places.{contains_none}
use Rattle.laws_modules.specs.Names.Names.{nodes, views}
use Rattle.meaning_rules.specs.Overrides.{overrides_of}
use Rattle.laws_names.proofs.Reading.Lists.{contains_map, contains_mapped}
use Rattle.meaning_evaluation.specs.Named.{Definitions, RecipeName, VariableName, VariableRow}
use Rattle.meaning_evaluation.specs.Scopes.{defined_in}
use Rattle.just_meaning.specs.Actions.{IsKept}
use Rattle.just_meaning.specs.Opening.{named, reading_in}
use Rattle.just_meaning.specs.Opening as opening
use Rattle.just_meaning.specs.Reading.{VariableReads}
use Rattle.laws_runs.specs.Menus.Named.{name_at}
use Rattle.laws_runs.specs.Resolved.Definitions.{functions_at}
use Rattle.laws_runs.specs.Settings.Settled.{AllSettle}
use Rattle.laws_runs.specs.Running.Opened.{IsTaskOf, OpenByNames, OpensFor}
use Rattle.laws_runs.specs.Running.Openings.{CalledAreThere, TasksOpenByNames}
use Rattle.laws_runs.proofs.Running.Opening.All.{open_by_names}
use Rattle.laws_runs.proofs.Running.Opening.Lazy.{wanted_open}
use Rattle.laws_runs.proofs.Running.Opening.Functions.{functions_same}
use Rattle.laws_runs.proofs.Running.Opening.Context.{FunctionsAgree, defined_by}
use Rattle.laws_runs.proofs.Running.Opening.Opens.{viewed}
use Rattle.laws_runs.proofs.Running.Opening.Ordering.{all_open, opened_row, order_here}
use Rattle.laws_runs.proofs.Running.Opening.Requests.{IsViewOf, functions_in, listed_in, view_parts}
use Rattle.laws_runs.proofs.Running.Opening.Values.{HoldAlike, name_of, number_of}
use Rattle.laws_runs.proofs.Running.Opening.Views.{kept_here, variables_here}
use Rattle.laws_runs.proofs.Running.Opening.Written.{AttributesStandOnce, HaveOwnParameters, attributes_stand_once, have_own_parameters}

definitions_are : (fs : List FunctionRef) → definitions fs ≡ map defined_of (lists.functions_in fs)
definitions_are [] = refl
definitions_are (f ∷ fs) = ap (λ ds. defined_of f.definition.now ∷ ds) (definitions_are fs)

-- what opens for a task has a row
opens_row : (defined : Definitions) (no_dependencies : Bool) (name : ℕ → RecipeName) (task : Task) (x : VariableName) → OpensFor defined no_dependencies name task x → (row : VariableRow) × (defined.variable x ≡ Some row)
opens_row defined no_dependencies name (Run calls) x o = opened_row defined no_dependencies (map name (called_by (Run calls))) x o
opens_row defined no_dependencies name (Evaluate target) x o = (o.row, o.there)
opens_row defined no_dependencies name (Command words) x o = opened_row defined no_dependencies [] x o

-- and what it reads opens as well
opens_closed : (defined : Definitions) (no_dependencies : Bool) (name : ℕ → RecipeName) (task : Task) (x y : VariableName) (row : VariableRow) → defined.variable x ≡ Some row → OpensFor defined no_dependencies name task y
    → y.path ≡ x.path → defined.override y ≡ None → VariableReads defined y x.name → OpensFor defined no_dependencies name task x
opens_closed defined no_dependencies name (Run calls) x y row there o same free reads = opening.by_variable there o same free reads
opens_closed defined no_dependencies name (Evaluate target) x y row there o same free reads = record { row = row; there = there }
opens_closed defined no_dependencies name (Command words) x y row there o same free reads = opening.by_variable there o same free reads

module _ (w : World) (compilation : Compilation) (given : List Override) (base : Text) (analysis : Analysis) (settled : AllSettle w (overrides_of given) compilation analysis.values.value.settings.items)
    (task : Task) (context : TaskContext) (modules : List ModuleView) (opens : Opens) (t : IsTaskOf w compilation given base analysis settled task context modules opens) (parameters : HaveOwnParameters compilation) where
  abbrev path_of : ℕ → List Text
  path_of k = path_in compilation.modules.items k

  abbrev HasPathTo : ℕ → List Text → Type 0
  HasPathTo k path = HasPath w (views w compilation) (nodes w compilation) k path

  abbrev name : ℕ → RecipeName
  name = name_at compilation analysis.table.value

  abbrev Open : VariableName → Type 0
  Open = OpensFor (defined_by w compilation t.resolvable.numbered given base analysis t.known settled context.config.now) context.config.now.no_dependencies name task

  module _ (k : ℕ) (view : ModuleView) (at : slice_get modules k ≡ Some view) (has : HasPathTo k (path_of k)) where
    -- the functions of a module agree
    functions_agree : (pairs : List Pair) → FunctionsAgree w compilation t.resolvable.numbered given base analysis t.known settled k (path_of k) has pairs (is_wanted opens view) opens.constants.now.own view
    functions_agree pairs own held alike =
        let v : IsViewOf compilation.modules.items analysis.variables analysis.values.value k (seen view)
        = view_parts compilation.modules.items analysis.variables analysis.values.value k (seen view) (viewed w compilation given base analysis settled task context modules opens t k view at (path_of k) has) in
        let listed : view.assignments.now ≡ v.lists.assignments.items = listed_in compilation.modules.items analysis.variables analysis.values.value k (seen view) v in
        let functions : view.functions.now ≡ v.lists.functions.items = functions_in compilation.modules.items analysis.variables analysis.values.value k (seen view) v in
        let kept = kept_here compilation base given analysis t.known k v.node v.lists v.here v.kept in
        let are = variables_here compilation base given analysis t.known k v.node v.lists v.here v.kept in
        let same : definitions view.functions.now ≡ map defined_of (lists.functions_at compilation v.node.functions.items)
        = ap definitions functions ∙ definitions_are v.lists.functions.items ∙ ap (λ (x : Kept). map defined_of x.functions) kept in
        subst (λ fs. SameFunctions (λ place x y. IsBoundIn (framed (opens.constants.now.own ∷ []) own) x.number → opening_reading (framed (opens.constants.now.own ∷ []) own) place x ≡ reading_in held place y) fs (map (defined_in w.expansion) (functions_at compilation (path_of k))))
        (sym same)
        (functions_same w compilation t.resolvable.numbered parameters k v.node v.here (path_of k) has v.lists.assignments.items are view.settings.now.export opens.constants.now.own t.opens_are.constants own held
        (subst (λ l. HoldAlike l view.settings.now.export own held) listed alike))

  -- variables are read by numbers where they open by names
  abbrev pub OpensAgree : Type 0
  OpensAgree = (k : ℕ) (view : ModuleView) (at : slice_get modules k ≡ Some view) (has : HasPathTo k (path_of k)) (lent : AssignmentRef) → Contains view.assignments.now lent
      → (is_wanted opens view (number_of lent) ≡ true) ↔ Open (named (path_of k) (name_of lent))

  -- modules that open by places open by names, where variables are read that open
  pub agreeing_open_by_names : OpensAgree → (old new : List Entry) → OpenByNames w compilation given base analysis settled task context modules opens old new
  agreeing_open_by_names agree old new =
      open_by_names w compilation given base analysis settled task context modules opens t
      (λ k view at has. record {
        functions = functions_agree k view at has;
        order =
            order_here w compilation given base analysis settled task context modules opens t k view at (path_of k) has Open
            (record {
              row = λ x o. opens_row (defined_by w compilation t.resolvable.numbered given base analysis t.known settled context.config.now) context.config.now.no_dependencies name task x o;
              closed = λ x y row there o same free reads.
                  opens_closed (defined_by w compilation t.resolvable.numbered given base analysis t.known settled context.config.now) context.config.now.no_dependencies name task x y row there o same free reads;
            }) (agree k view at has);
      }) old new

-- ---- which variables are read for each task

-- where values are asked for, all variables are
all_wanted : (analysis : Analysis) (task : Task) (no_dependencies : Bool) (wanted : Option (Bor (BTreeSet ℕ))) → wants_all analysis.values.value.settings.items task ≡ true
    → IsWanted analysis.variables analysis.table.value.recipes.items analysis.values.value.settings.items task no_dependencies (option_map (λ numbers. numbers.now) wanted)
    → (lazy : Bool) (number : ℕ) → reads (if lazy then wanted else None) number ≡ true
all_wanted analysis task no_dependencies wanted all wants false number = refl
all_wanted analysis task no_dependencies None all wants true number = refl
all_wanted analysis task no_dependencies (Some numbers) all wants true number = absurd (true≢false (sym all ∙ wants.0))

-- those that open
opens_agree : (w : World) (compilation : Compilation) (given : List Override) (base : Text) (analysis : Analysis) (settled : AllSettle w (overrides_of given) compilation analysis.values.value.settings.items)
    (task : Task) (context : TaskContext) (modules : List ModuleView) (opens : Opens) (t : IsTaskOf w compilation given base analysis settled task context modules opens) (parameters : HaveOwnParameters compilation)
    → AttributesStandOnce compilation → CalledAreThere analysis.table.value task → OpensAgree w compilation given base analysis settled task context modules opens t parameters
opens_agree w compilation given base analysis settled (Run calls) context modules opens t parameters single there k view at has lent c =
    wanted_open w compilation given base analysis settled (Run calls) context modules opens t k view at (path_in compilation.modules.items k) has single
    (λ place d. let m = contains_mapped (λ (call : Call). call.recipe) calls.items place d in subst (λ p. p < length analysis.table.value.recipes.items) m.2 (there (row_of m.0) (contains_map row_of calls.items m.0 m.1)))
    refl lent c
opens_agree w compilation given base analysis settled (Evaluate target) context modules opens t parameters single there k view at has lent c =
    all_open w compilation given base analysis settled (Evaluate target) context modules opens t k view at (path_in compilation.modules.items k) has
    (IsKept (defined_by w compilation t.resolvable.numbered given base analysis t.known settled context.config.now)) (λ x row same defined. record { row = row; there = defined })
    (all_wanted analysis (Evaluate target) context.config.now.no_dependencies opens.wanted refl wants view.settings.now.lazy) lent c
  where
    wants : IsWanted analysis.variables analysis.table.value.recipes.items analysis.values.value.settings.items (Evaluate target) context.config.now.no_dependencies (option_map (λ numbers. numbers.now) opens.wanted)
    wants =
        subst (λ wanted. IsWanted analysis.variables analysis.table.value.recipes.items analysis.values.value.settings.items (Evaluate target) context.config.now.no_dependencies (option_map (λ numbers. numbers.now) wanted))
        (sym t.opens_are.wanted) t.prepared.wanted_are
opens_agree w compilation given base analysis settled (Command words) context modules opens t parameters single there k view at has lent c =
    wanted_open w compilation given base analysis settled (Command words) context modules opens t k view at (path_in compilation.modules.items k) has single (λ place d. absurd (contains_none [] place refl d)) refl lent c

-- for any task, modules open by names as they open by places, and a beginning of it by places is one by names
pub tasks_open_by_names : TasksOpenByNames
tasks_open_by_names w compilation given base analysis settled task context modules opens t source stands there old new =
    let parameters = have_own_parameters source w compilation stands t.resolvable.numbered.of in
    agreeing_open_by_names w compilation given base analysis settled task context modules opens t parameters
    (opens_agree w compilation given base analysis settled task context modules opens t parameters (attributes_stand_once source w compilation stands t.resolvable.numbered.of) there) old new
