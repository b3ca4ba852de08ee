-- The job of a command in the root module by places is that by names.
use Rattle.std.proofs.Common.{◌≡◌, ◌∙◌, sym, ap, ap₂, subst, Bool, false, ◌||◌, List, [], ◌∷◌, map, Some, None, ℕ}
use Rattle.std.specs.Prelude.{Contains, slice_get}
use Rattle.std.specs.String.{string_bytes}
use Rattle.std.proofs.lemmas.List.Elements.{All-contains}
use Rattle.std.proofs.lemmas.Option.{same_Some}
use Rattle.just_host.specs.declared.config.Config.{Config}
use Rattle.just_host.specs.declared.job.CommandJob.{CommandJob}
use Rattle.just_host.specs.declared.job.Pair.{Pair}
use Rattle.just_value.specs.Frames.{BoundRow, ByNumber}
use Rattle.just_value.specs.declared.positional.Override.{Override}
use Rattle.modules_compilation.specs.Modulepaths.{path_in}
use Rattle.modules_compilation.specs.declared.compilation.Compilation.{Compilation}
use Rattle.modules_compilation.specs.declared.module_node.ModuleNode.{ModuleNode}
use Rattle.evaluate_context.specs.Environment.{frame_pairs, last_of, variable}
use Rattle.evaluate_context.specs.Surroundings.{Standing, Surroundings, by_name, given as given_pairs, removed, standing_in, surroundings_of}
use Rattle.evaluate_context.specs.declared.context.AssignmentRef.{AssignmentRef}
use Rattle.evaluate_context.specs.declared.context.ExecutionContext.{ExecutionContext}
use Rattle.resolve_analysis.specs.declared.analysis.Analysis.{Analysis}
use Rattle.just_resolve.specs.Analysis.{IsAnalysis}
use Rattle.just_resolve.specs.Settling.{folder_of}
use Rattle.run_tasks.specs.Commands.{words_job}
use Rattle.run_tasks.specs.declared.task.Task.{Task}
use Rattle.run_tasks.specs.declared.task.TaskContext.{TaskContext}
use Rattle.meaning_rules.specs.Worlds.Compiled.{HasPath}
use Rattle.meaning_rules.specs.Worlds.Given.{Text, World}
use Rattle.meaning_rules.proofs.Worlds.Places.{contains_at, contains_first, contains_later}
use Rattle.laws_modules.specs.Names.Names.{nodes, views}
use Rattle.meaning_rules.specs.Overrides.{overrides_of}
use Rattle.laws_names.specs.Reading.Meant.{IsNumberedWorld}
use Rattle.meaning_evaluation.specs.Named.{Definitions, ModuleRow, VariableRow}
use Rattle.meaning_evaluation.specs.Scopes.{Scene, surroundings_in}
use Rattle.just_meaning.specs.Actions.{command_job}
use Rattle.just_meaning.specs.Opening.{Opened, is_exported, module_says, named, opening_standing, pairs_of, scene_in, variable_says}
use Rattle.just_meaning.specs.Runs.{pairs_at, values_at}
use Rattle.laws_runs.specs.Resolved.Definitions.{definitions_of}
use Rattle.laws_runs.proofs.Resolved.Leading.{root_path}
use Rattle.laws_runs.proofs.Resolved.Own.{path_is}
use Rattle.laws_runs.specs.Settings.Settled.{AllSettle}
use Rattle.laws_runs.specs.ByName.Places.{SamePlace}
use Rattle.laws_agreement.specs.Grounds.Alike.{AreOpenAlike, IsOpenAlike}
use Rattle.just_meaning.specs.Configured.{configuration_of}
use Rattle.laws_runs.specs.Running.Opened.{AreReady}
use Rattle.laws_runs.specs.Running.Steps.{defined}
use Rattle.laws_runs.specs.Running.Told.{JobsAreNamed}
use Rattle.laws_runs.proofs.Running.Opening.Module as kept
use Rattle.laws_runs.proofs.Running.Opening.Pairs.{exported_same}
use Rattle.laws_runs.proofs.Running.Opening.Places.{same_in_functions}
use Rattle.laws_runs.proofs.Running.Opening.Requests.{HasRow, has_row}
use Rattle.laws_runs.proofs.Running.Opening.Values.{name_of}
use Rattle.laws_runs.proofs.Running.Opening.Views.{folders_are}
use Rattle.laws_runs.proofs.Running.Running.Modules.{hold_alike, kept_are, pairs_found, v, values_found, variable_row}

module _ (w : World) (compilation : Compilation) (n : IsNumberedWorld w compilation) (given : List Override) (analysis : Analysis) (settled : AllSettle w (overrides_of given) compilation analysis.values.value.settings.items)
    (task : Task) (context : TaskContext) (known : IsAnalysis compilation (string_bytes context.config.now.base) given analysis)
    (contexts : List ExecutionContext) (opened : List Opened) (alike : AreOpenAlike compilation analysis contexts opened)
    (ready : AreReady w compilation given (string_bytes context.config.now.base) analysis settled task context contexts opened)
    (here : ExecutionContext) (there : slice_get contexts 0 ≡ Some here) where
  abbrev base : Text
  base = string_bytes context.config.now.base

  -- what is defined by name, where the program is configured so
  abbrev by_config : Config → Definitions
  by_config config = definitions_of compilation w.expansion (overrides_of given) settled.settle (string_bytes config.base) (string_bytes config.working_directory)

  abbrev own : Definitions
  own = by_config here.config.now

  configured : (here.config.now ≡ context.config.now) × (here.root.now ≡ context.root.now)
  configured = All-contains (λ (c : ExecutionContext). (c.config.now ≡ context.config.now) × (c.root.now ≡ context.root.now)) contexts here ready.configured (contains_at contexts 0 here there)

  -- ---- the root module

  root_has : HasPath w (views w compilation) (nodes w compilation) 0 []
  root_has = root_path w compilation n.of

  root_is : path_in compilation.modules.items 0 ≡ []
  root_is = path_is w compilation n.of 0 [] root_has

  abbrev o : Opened
  o = (alike.each 0 here there).0

  among : Contains opened o
  among = (alike.each 0 here there).1

  abbrev is : IsOpenAlike compilation analysis 0 here o
  is = (alike.each 0 here there).2

  path_there : o.path ≡ []
  path_there = is.path ∙ root_is

  one : (other : Opened) → Contains opened other → other.path ≡ [] → other ≡ o
  one other c same = alike.apart other o c among (same ∙ sym path_there)

  folders : analysis.values.value.folders.items ≡ map (λ (node : ModuleNode). folder_of (string_bytes here.config.now.base) node.source.now) compilation.modules.items
  folders =
      subst (λ (c : Config). analysis.values.value.folders.items ≡ map (λ (node : ModuleNode). folder_of (string_bytes c.base) node.source.now) compilation.modules.items) (sym configured.0) (folders_are compilation base given analysis known)

  row_here : HasRow w (overrides_of given) compilation analysis.values.value settled here.config.now 0 [] here.module.now
  row_here = has_row w (overrides_of given) compilation analysis.values.value settled here.config.now analysis.variables n.of n.single folders 0 [] root_has here.module.now (v w compilation n given base analysis known 0 here o is)

  -- ---- what the root exports

  abbrev export : Bool
  export = here.module.now.settings.now.export

  abbrev assignments : List AssignmentRef
  assignments = is.lists.assignments.items

  exports : (lent : AssignmentRef) → Contains assignments lent → is_exported own (named [] (name_of lent)) ≡ lent.assignment.now.export || export
  exports lent c =
      let row = variable_row w compilation n given base analysis known 0 here o is lent c in
      ap (λ x. variable_says x (λ (r : VariableRow). r.export || module_says (own.inside []) (λ (m : ModuleRow). m.export)))
      (subst (λ path. own.variable (named path (name_of lent)) ≡ Some row.row) root_is row.is)
      ∙ ap₂ (λ a b. a || b) row.export (ap (λ m. module_says m (λ (x : ModuleRow). x.export)) row_here.is ∙ row_here.export)

  abbrev out : List Pair
  out = pairs_of own [] (values_at [] opened)

  exported : (name : Text) → last_of name (frame_pairs export here.scope.now.own) ≡ last_of name out
  exported name =
      exported_same own [] assignments export
      (kept.apart w compilation n 0 (v w compilation n given base analysis known 0 here o is).node (v w compilation n given base analysis known 0 here o is).here []
      root_has assignments (kept_are w compilation n given base analysis known 0 here o is) export)
      exports here.scope.now.own o.values
      (hold_alike w compilation n given base analysis known 0 here o is (λ held c. ready.held_only 0 here there o among is held c))
      (ready.sorted 0 here there here.scope.now.own (contains_first here.scope.now.own here.scope.now.outer)) name
      ∙ ap (λ values. last_of name (pairs_of own [] values)) (sym (values_found [] opened o among path_there one))

  -- ---- the job

  constants_sorted : ByNumber is.constants
  constants_sorted =
      ready.sorted 0 here there is.constants (contains_later here.scope.now.own here.scope.now.outer is.constants (subst (λ outer. Contains outer is.constants) (sym is.outer) (contains_first is.constants [])))

  pairs_are : map variable here.dotenv.now.entries ≡ by_name (pairs_at [] opened)
  pairs_are = is.pairs ∙ ap by_name (sym (pairs_found [] opened o among path_there one))

  abbrev around : Surroundings
  around = surroundings_of here

  -- where the frames of the module, inside those around it, are exported
  abbrev inside : List (List BoundRow) → Standing
  inside outer = standing_in here [] (record { own = []; outer = here.scope.now.own ∷ outer }) false None

  abbrev scene : Scene
  scene = scene_in (configuration_of here.config.now here.root.now w.expansion) own [] row_here.row (pairs_at [] opened) out

  abbrev by_names : Surroundings
  by_names = surroundings_in (configuration_of here.config.now here.root.now w.expansion) scene

  place : SamePlace around by_names (inside (is.constants ∷ [])) (opening_standing out)
  place =
      same_in_functions w (overrides_of given) compilation analysis.values.value settled 0 [] here row_here w.expansion own (pairs_at [] opened) pairs_are out is.constants is.language constants_sorted here.scope.now.own exported

  module _ (command : Text) (words : List Text) where
    abbrev job : List Pair → List Text → Text → CommandJob
    job pairs lacking folder = record {
      shell = [];
      command = command;
      positional = words;
      pairs = pairs;
      removed = lacking;
      folder = Some folder;
      quiet = here.config.now.quiet;
    }

    -- the same job by the names of the root
    job_here : words_job here command words ≡ command_job (configuration_of here.config.now here.root.now w.expansion) own row_here.row opened command words
    job_here =
        ap (λ outer. job (by_name (given_pairs around (inside outer))) (removed around (inside outer)) around.folder) is.outer
        ∙ ap₂ (λ pairs lacking. job pairs lacking around.folder) place.pairs place.lacking
        ∙ ap (job (by_name (given_pairs by_names (opening_standing out))) (removed by_names (opening_standing out))) (sym row_here.folder)

    -- as the program is configured
    abbrev IsJobOf : Config → List ℕ → ModuleRow → Type 0
    IsJobOf config root row = words_job here command words ≡ command_job (configuration_of config root w.expansion) (by_config config) row opened command words

    job_of_row : (row : ModuleRow) → own.inside [] ≡ Some row → IsJobOf here.config.now here.root.now row
    job_of_row row e = subst (IsJobOf here.config.now here.root.now) (same_Some row_here.row row (sym row_here.is ∙ e)) job_here

    job_configured : (row : ModuleRow) → (by_config context.config.now).inside [] ≡ Some row → IsJobOf context.config.now context.root.now row
    job_configured =
        subst (λ (root : List ℕ). (row : ModuleRow) → (by_config context.config.now).inside [] ≡ Some row → IsJobOf context.config.now root row) configured.1
        (subst (λ (config : Config). (row : ModuleRow) → (by_config config).inside [] ≡ Some row → IsJobOf config here.root.now row) configured.0 job_of_row)

  -- the root has a row
  pub root_row : (row : ModuleRow) × ((defined w compilation given (string_bytes context.config.now.base) analysis settled context.config.now context.root.now).inside [] ≡ Some row)
  root_row = (row_here.row, subst (λ (config : Config). (by_config config).inside [] ≡ Some row_here.row) configured.0 row_here.is)

pub jobs_are_named : JobsAreNamed
jobs_are_named w compilation n given analysis settled task context known contexts opened alike ready here there row row_is command words =
    job_configured w compilation n given analysis settled task context known contexts opened alike ready here there command words row row_is
