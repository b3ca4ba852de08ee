-- The row of a module says what its view says.
use Rattle.std.proofs.Common.{◌≡◌, refl, sym, ◌∙◌, ap, subst, Bool, true, false, cond, if◌then◌else◌, List, [], ◌∷◌, ◌++◌, Option, Some, None, ℕ, map, is_some}
use Rattle.std.specs.Prelude.{slice_get, ◌||◌, codes}
use Rattle.std.specs.Global.{Vec}
use Rattle.std.specs.Option.{option_and_then, option_map}
use Rattle.std.specs.String.{string_bytes}
use Rattle.std.proofs.lemmas.Option.{none-some, same_Some}
use Rattle.tree_expressions.specs.Shape.{Shape}
use Rattle.just_host.specs.declared.config.Config.{Config}
use Rattle.just_host.specs.declared.job.DotenvRequest.{DotenvRequest}
use Rattle.just_value.specs.Paths.{join, parent}
use Rattle.evaluate_context.specs.Folders.{folder_below}
use Rattle.evaluate_context.specs.Environment.{texts}
use Rattle.evaluate_context.specs.declared.context.ModuleView.{ModuleView}
use Rattle.evaluate_context.specs.declared.settings.Settings.{Settings}
use Rattle.modules_compilation.specs.declared.compilation.Compilation.{Compilation}
use Rattle.modules_compilation.specs.declared.module_node.ModuleNode.{ModuleNode}
use Rattle.resolve_analysis.specs.Views.{View, seen, view_at, view_of}
use Rattle.resolve_analysis.specs.declared.known_values.KnownValues.{KnownValues}
use Rattle.resolve_analysis.specs.declared.module_lists.ModuleLists.{ModuleLists}
use Rattle.resolve_analysis.specs.declared.variables.ModuleVariables.{ModuleVariables}
use Rattle.just_resolve.specs.Settling.{folder_of, or_empty}
use Rattle.analyze_calls.specs.Opening.{folder_in, request_if_any, is_any}
use Rattle.meaning_dialogues.specs.Evaluation.{Value}
use Rattle.meaning_rules.specs.Worlds.Given.{Overrides, Text, World}
use Rattle.meaning_rules.specs.Worlds.Compiled.{HasPath, NodeView, root, inside}
use Rattle.meaning_rules.specs.Worlds.Views.{name_text, node_view}
use Rattle.laws_modules.specs.Names.Names.{AreSingle, HasNode, IsOfWorld, nodes, views}
use Rattle.laws_modules.proofs.Names.Found.{mapped}
use Rattle.laws_modules.proofs.Names.Named.{node_is}
use Rattle.modules_compilation.specs.Modulepaths.{path_in}
use Rattle.modules_compilation.specs.Tables.{text_cmp}
use Rattle.std.specs.List.Sorted.{IsStrictlySortedBy}
use Rattle.laws_runs.proofs.Resolved.Own.{path_is}
use Rattle.meaning_evaluation.specs.Named.{ModuleRow}
use Rattle.just_meaning.specs.Rows.{module_row, text_or_empty}
use Rattle.just_meaning.specs.Rows as rows
use Rattle.laws_runs.specs.Resolved.Definitions.{is_root, row_at, row_of, sets_of}
use Rattle.laws_runs.proofs.Resolved.Leading.{leads_to}
use Rattle.laws_runs.specs.Settings.Settled.{AllSettle, AreSettledAs}

-- ---- a view, by what is known

-- what the view of the module at a place is made of
pub record IsViewOf (modules : List ModuleNode) (variables : ModuleVariables) (values : KnownValues) (k : ℕ) (view : View) : Type 0 where
  pub node : ModuleNode
  pub here : slice_get modules k ≡ Some node
  pub lists : ModuleLists
  pub kept : slice_get variables.lists.items k ≡ Some lists
  pub order : Vec ℕ
  pub ordered : slice_get variables.orders.items k ≡ Some order
  pub settings : Settings
  pub set : slice_get values.settings.items k ≡ Some settings
  pub folder : List ℕ
  pub stands : slice_get values.folders.items k ≡ Some folder
  pub is : view_of modules k (Some node) (Some lists) (Some order) (Some settings) (Some folder) ≡ Some view

module _ (modules : List ModuleNode) (variables : ModuleVariables) (values : KnownValues) (k : ℕ) (view : View) (v : IsViewOf modules variables values k view) where
  whole : (record {
    assignments = v.lists.assignments.items;
    evaluation_order = v.order.items;
    functions = v.lists.functions.items;
    settings = v.settings;
    source = v.node.source.now;
    modules = modules;
    place = k;
    working_directory = v.folder;
    unexports = v.node.unexports.items;
    is_submodule = is_some v.node.parent;
  }) ≡ view
  whole = same_Some _ view v.is

  -- what it lists, their order and its settings are those parts
  pub listed_in : view.assignments ≡ v.lists.assignments.items
  listed_in = ap (λ (x : View). x.assignments) (sym whole)

  pub ordered_in : view.evaluation_order ≡ v.order.items
  ordered_in = ap (λ (x : View). x.evaluation_order) (sym whole)

  pub functions_in : view.functions ≡ v.lists.functions.items
  functions_in = ap (λ (x : View). x.functions) (sym whole)

  pub settings_in : v.settings ≡ view.settings
  settings_in = ap (λ (x : View). x.settings) whole

module _ (modules : List ModuleNode) (variables : ModuleVariables) (values : KnownValues) (k : ℕ) (view : View) where
  by_parts : (node : Option ModuleNode) (lists : Option ModuleLists) (order : Option (Vec ℕ)) (settings : Option Settings) (folder : Option (List ℕ))
      → slice_get modules k ≡ node → slice_get variables.lists.items k ≡ lists → slice_get variables.orders.items k ≡ order → slice_get values.settings.items k ≡ settings → slice_get values.folders.items k ≡ folder
      → view_of modules k node lists order settings folder ≡ Some view → IsViewOf modules variables values k view
  by_parts None lists order settings folder a b c d f e = absurd (none-some view e)
  by_parts (Some node) None order settings folder a b c d f e = absurd (none-some view e)
  by_parts (Some node) (Some lists) None settings folder a b c d f e = absurd (none-some view e)
  by_parts (Some node) (Some lists) (Some order) None folder a b c d f e = absurd (none-some view e)
  by_parts (Some node) (Some lists) (Some order) (Some settings) None a b c d f e = absurd (none-some view e)
  by_parts (Some node) (Some lists) (Some order) (Some settings) (Some folder) a b c d f e = record {
    node = node;
    here = a;
    lists = lists;
    kept = b;
    order = order;
    ordered = c;
    settings = settings;
    set = d;
    folder = folder;
    stands = f;
    is = e;
  }

  -- a view that is known has its parts
  pub view_parts : view_at modules variables values k ≡ Some view → IsViewOf modules variables values k view
  view_parts e = by_parts (slice_get modules k) (slice_get variables.lists.items k) (slice_get variables.orders.items k) (slice_get values.settings.items k) (slice_get values.folders.items k) refl refl refl refl refl e

-- ---- the request by its parts

any_same : (settle : Shape → Value) (v : Value) → rows.is_any settle v ≡ is_any v
any_same settle [] = refl
any_same settle (text ∷ texts) = refl

abbrev request_by : List ℕ → Bool → Bool → Bool → Value → Value → Value → Option DotenvRequest
request_by folder load overriding required filenames paths command =
    if (load || (overriding || required)) || (is_any filenames || (is_any paths || is_any command)) then Some (record {
      folder = folder;
      load = load;
      filenames = filenames;
      paths = paths;
      command = command;
      overriding = overriding;
      required = required;
    }) else None

-- the request of a row, by its parts
request_rows : (settle : Shape → Value) (folder : List ℕ) (load overriding required : Bool) (filenames paths command : Value)
    → cond ((load || (overriding || required)) || (rows.is_any settle filenames || (rows.is_any settle paths || rows.is_any settle command))) (Some (record {
      folder = folder;
      load = load;
      filenames = filenames;
      paths = paths;
      command = command;
      overriding = overriding;
      required = required;
    })) None ≡ request_by folder load overriding required filenames paths command
request_rows settle folder load overriding required filenames paths command =
    ap (λ b. cond ((load || (overriding || required)) || (b || (rows.is_any settle paths || rows.is_any settle command))) asked None) (any_same settle filenames)
    ∙ ap (λ b. cond ((load || (overriding || required)) || (is_any filenames || (b || rows.is_any settle command))) asked None) (any_same settle paths)
    ∙ ap (λ b. cond ((load || (overriding || required)) || (is_any filenames || (is_any paths || b))) asked None) (any_same settle command)
    ∙ by_test ((load || (overriding || required)) || (is_any filenames || (is_any paths || is_any command)))
  where
    asked : Option DotenvRequest
    asked = Some (record {
      folder = folder;
      load = load;
      filenames = filenames;
      paths = paths;
      command = command;
      overriding = overriding;
      required = required;
    })

    by_test : (b : Bool) → cond b asked None ≡ (if b then asked else None)
    by_test true = refl
    by_test false = refl

-- ---- the root, and the folder of a module

snoc_root : (path : List Text) (name : Text) → is_root (path ++ name ∷ []) ≡ false
snoc_root [] name = refl
snoc_root (x ∷ xs) name = refl

or_same : (o : Option Text) → text_or_empty o ≡ or_empty o
or_same (Some folder) = refl
or_same None = refl

module _ (w : World) (compilation : Compilation) where
  abbrev HasPathTo : ℕ → List Text → Type 0
  HasPathTo k path = HasPath w (views w compilation) (nodes w compilation) k path

  -- the root has no parent, and another module has one
  pub data IsRootOrInside (node : ModuleNode) (path : List Text) : Type 0 where
    is_the_root : is_root path ≡ true → node.parent ≡ None → IsRootOrInside node path
    is_inside : (p : ℕ) → is_root path ≡ false → node.parent ≡ Some p → IsRootOrInside node path

  pub root_or_inside : (k : ℕ) (node : ModuleNode) (path : List Text) → HasNode w compilation k node → HasPathTo k path → IsRootOrInside node path
  root_or_inside _ node _ here (root {node = view} e none) =
      let same = same_Some view (node_view node) (sym e ∙ mapped node_view compilation.modules.items 0 node here) in
      is_the_root refl (ap (λ (v : NodeView). v.parent) (sym same) ∙ none)
  root_or_inside _ node _ here (inside {k = k} {p} {node = view} {path} {name} e parent lt named above) =
      let same = same_Some view (node_view node) (sym e ∙ mapped node_view compilation.modules.items k node here) in
      is_inside p (snoc_root path name) (ap (λ (v : NodeView). v.parent) (sym same) ∙ parent)

-- ---- the row of a module

module _ (w : World) (o : Overrides) (compilation : Compilation) (values : KnownValues) (settled : AllSettle w o compilation values.settings.items) (config : Config) where
  abbrev base : Text
  base = string_bytes config.base

  abbrev working : Text
  working = string_bytes config.working_directory

  -- the module at a path, with its place, its view and its row by names
  pub record HasRow (k : ℕ) (path : List Text) (view : ModuleView) : Type 0 where
    pub row : ModuleRow
    pub is : row_at compilation settled.settle base working path ≡ Some row
    pub request : row.request ≡ request_if_any config view
    pub folder : row.folder ≡ folder_in config view
    pub export : row.export ≡ view.settings.now.export
    pub lists : row.lists ≡ view.settings.now.lists
    pub lazy : row.lazy ≡ view.settings.now.lazy
    pub source : row.source ≡ view.source.now
    pub shell : row.shell ≡ option_map (λ i. i.command ∷ i.arguments.items) view.settings.now.shell
    pub unexports : row.unexports ≡ texts view.unexports.now
    pub sorted : IsStrictlySortedBy text_cmp row.unexports
    pub place : path_in view.modules.now view.place ≡ path

  module _ (variables : ModuleVariables) (is : IsOfWorld w compilation) (single : AreSingle w compilation) (folders : values.folders.items ≡ map (λ (node : ModuleNode). folder_of base node.source.now) compilation.modules.items)
      (k : ℕ) (path : List Text) (has : HasPathTo w compilation k path) (view : ModuleView) (v : IsViewOf compilation.modules.items variables values k (seen view)) where
    abbrev own : View
    own = seen view

    viewed : (record {
      assignments = v.lists.assignments.items;
      evaluation_order = v.order.items;
      functions = v.lists.functions.items;
      settings = v.settings;
      source = v.node.source.now;
      modules = compilation.modules.items;
      place = k;
      working_directory = v.folder;
      unexports = v.node.unexports.items;
      is_submodule = is_some v.node.parent;
    }) ≡ own
    viewed = same_Some _ own v.is

    settings_are : v.settings ≡ view.settings.now
    settings_are = ap (λ (x : View). x.settings) viewed

    agrees : AreSettledAs (settled.settle k) (sets_of compilation v.node) view.settings.now
    agrees = subst (AreSettledAs (settled.settle k) (sets_of compilation v.node)) settings_are (settled.each k v.node path v.settings v.here has v.set).settled

    abbrev row_here : ModuleRow
    row_here = module_row (settled.settle k) base working (is_root path) v.node.source.now (map name_text v.node.unexports.items) (sets_of compilation v.node)

    row_there : row_at compilation settled.settle base working path ≡ Some row_here
    row_there =
        ap (option_and_then (λ k. row_of compilation settled.settle base working path k (slice_get compilation.modules.items k))) (leads_to w compilation is single k path has)
        ∙ ap (row_of compilation settled.settle base working path k) v.here

    folder_is : v.folder ≡ or_empty (parent (join base v.node.source.now))
    folder_is = same_Some v.folder _ (sym v.stands ∙ ap (λ l. slice_get l k) folders ∙ mapped (λ (node : ModuleNode). folder_of base node.source.now) compilation.modules.items k v.node v.here)

    start_same : IsRootOrInside w compilation v.node path
        → cond (is_root path) working (text_or_empty (parent (join base v.node.source.now))) ≡ (if is_some v.node.parent then v.folder else working)
    start_same (is_the_root first none) =
        ap (λ b. cond b working (text_or_empty (parent (join base v.node.source.now)))) first ∙ sym (ap (λ (q : Option ℕ). if is_some q then v.folder else working) none)
    start_same (is_inside p first one) =
        ap (λ b. cond b working (text_or_empty (parent (join base v.node.source.now)))) first
        ∙ or_same (parent (join base v.node.source.now))
        ∙ sym folder_is
        ∙ sym (ap (λ (q : Option ℕ). if is_some q then v.folder else working) one)

    folder_same : row_here.folder ≡ folder_in config view
    folder_same =
        ap (λ start. folder_below start (rows.settled_text (settled.settle k) (rows.setting_named (codes "working-directory") (sets_of compilation v.node)))) (start_same (root_or_inside w compilation k v.node path v.here has))
        ∙ ap (folder_below (if is_some v.node.parent then v.folder else working)) agrees.working_directory
        ∙ ap (λ (x : View). folder_below (if x.is_submodule then x.working_directory else working) view.settings.now.working_directory) viewed

    abbrev load : Bool
    load = rows.truth_set (settled.settle k) (sets_of compilation v.node) (codes "dotenv-load")

    abbrev overriding : Bool
    overriding = rows.truth_set (settled.settle k) (sets_of compilation v.node) (codes "dotenv-override")

    abbrev required : Bool
    required = rows.truth_set (settled.settle k) (sets_of compilation v.node) (codes "dotenv-required")

    abbrev filenames : Value
    filenames = rows.value_set (settled.settle k) (sets_of compilation v.node) (codes "dotenv-filename")

    abbrev paths : Value
    paths = rows.value_set (settled.settle k) (sets_of compilation v.node) (codes "dotenv-path")

    abbrev command : Value
    command = rows.value_set (settled.settle k) (sets_of compilation v.node) (codes "dotenv-command")

    abbrev s : Settings
    s = view.settings.now

    request_same : row_here.request ≡ request_if_any config view
    request_same =
        request_rows (settled.settle k) row_here.folder load overriding required filenames paths command
        ∙ ap (λ x. request_by x load overriding required filenames paths command) folder_same
        ∙ ap (λ x. request_by (folder_in config view) x overriding required filenames paths command) agrees.dotenv_load
        ∙ ap (λ x. request_by (folder_in config view) s.dotenv_load x required filenames paths command) agrees.dotenv_override
        ∙ ap (λ x. request_by (folder_in config view) s.dotenv_load s.dotenv_override x filenames paths command) agrees.dotenv_required
        ∙ ap (λ x. request_by (folder_in config view) s.dotenv_load s.dotenv_override s.dotenv_required x paths command) agrees.dotenv_filename
        ∙ ap (λ x. request_by (folder_in config view) s.dotenv_load s.dotenv_override s.dotenv_required s.dotenv_filename x command) agrees.dotenv_path
        ∙ ap (λ x. request_by (folder_in config view) s.dotenv_load s.dotenv_override s.dotenv_required s.dotenv_filename s.dotenv_path x) agrees.dotenv_command

    -- the row at the path of a module says what its view says
    pub has_row : HasRow k path view
    has_row = record {
      row = row_here;
      is = row_there;
      request = request_same;
      folder = folder_same;
      export = agrees.export;
      lists = agrees.lists;
      lazy = agrees.lazy;
      source = ap (λ (x : View). x.source) viewed;
      shell = agrees.shell;
      unexports = ap (λ (x : View). map name_text x.unexports) viewed;
      sorted = (node_is w compilation is k v.node v.here).unexports.sorted;
      place = sym (ap (λ (x : View). path_in x.modules x.place) viewed) ∙ path_is w compilation is k path has;
    }
