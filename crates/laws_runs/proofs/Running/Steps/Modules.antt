-- A module that is open gives to its recipes by names what it gives by numbers.
use Rattle.std.proofs.Common.{◌≡◌, ◌∙◌, inl, inr, sym, ap, ap₂, refl, ℕ, Bool, true, false, List, [], ◌∷◌, ◌++◌, map, Option, Some, None, true≢false}
use Rattle.std.specs.Prelude.{Contains, slice_get, cond, if◌then◌else◌, is_some, not}
use Rattle.std.specs.Global.{Vec}
use Rattle.std.specs.Bool.{Decides}
use Rattle.std.specs.Cmp.Lexicographic.{bytes_decides, pointwise_decides}
use Rattle.std.specs.Option.{option_and_then, option_map}
use Rattle.std.specs.String.{string_bytes}
use Rattle.std.proofs.lemmas.Option.{none-some, same_Some}
use Rattle.semver.specs.Identifiers.{version_text}
use Rattle.just_text.specs.Names.{joined_names}
use Rattle.just_host.specs.declared.config.Config.{Config}
use Rattle.just_host.specs.declared.job.Pair.{Pair}
use Rattle.just_value.specs.Paths.{join, parent}
use Rattle.just_value.specs.declared.positional.Override.{Override}
use Rattle.modules_compilation.specs.Modulepaths.{path_in}
use Rattle.modules_compilation.specs.declared.compilation.Compilation.{Compilation}
use Rattle.modules_compilation.specs.declared.module_node.ModuleNode.{ModuleNode}
use Rattle.evaluate_context.specs.Environment.{last_of}
use Rattle.evaluate_context.specs.Folders.{folder_below}
use Rattle.evaluate_context.specs.Shells.{shell_words}
use Rattle.evaluate_context.specs.Surroundings.{by_name, entries_by_name, surroundings_of}
use Rattle.evaluate_context.specs.declared.context.ExecutionContext.{ExecutionContext}
use Rattle.evaluate_context.specs.declared.settings.Settings.{Settings}
use Rattle.evaluate_context.proofs.ByName.{found as found_by_name, last_sorted, sorted_after}
use Rattle.resolve_analysis.specs.Views.{View, seen, view_of}
use Rattle.resolve_analysis.specs.declared.analysis.Analysis.{Analysis}
use Rattle.resolve_analysis.specs.declared.module_lists.ModuleLists.{ModuleLists}
use Rattle.just_resolve.specs.Settling.{folder_of, or_empty}
use Rattle.analyze_calls.specs.declared.plan.Runner.{Runner}
use Rattle.meaning_rules.specs.Worlds.Compiled.{HasPath, NodeView, inside, root}
use Rattle.meaning_rules.specs.Worlds.Given.{Text, World}
use Rattle.meaning_rules.proofs.Worlds.Places.{contains_cases, contains_first, contains_later, contains_none}
use Rattle.meaning_rules.specs.Worlds.Views.{name_text, node_view}
use Rattle.laws_modules.specs.Names.Names.{HasNode, nodes, views}
use Rattle.laws_modules.proofs.Names.Found.{mapped}
use Rattle.meaning_rules.specs.Overrides.{overrides_of}
use Rattle.meaning_evaluation.specs.Named.{ModuleRow}
use Rattle.meaning_evaluation.specs.Calling.{Ground, scene_of}
use Rattle.meaning_evaluation.specs.Scopes.{Configuration, Scene, surroundings_in}
use Rattle.just_meaning.specs.Opening.{Opened}
use Rattle.just_meaning.specs.Rows.{module_row, text_or_empty}
use Rattle.just_meaning.specs.Runs.{ground_of, pairs_at, same_path, values_at}
use Rattle.laws_runs.specs.Resolved.Definitions.{is_root, row_at, row_of, sets_of}
use Rattle.laws_runs.proofs.Resolved.Own.{has_own_path}
use Rattle.laws_runs.specs.Settings.Settled.{AllSettle, AreSettledAs}
use Rattle.laws_runs.specs.Views.Known.{IsSeenAt}
use Rattle.just_meaning.specs.Configured.{configuration_of}
use Rattle.laws_runs.specs.ByName.Places.{SameModule}
use Rattle.laws_runs.specs.Running.Steps.{RestsOn, defined}
use Rattle.laws_runs.proofs.Running.Steps.Standing.{Stands, configured, found, path}

-- ---- modules that are open, by their paths

path_decides : (a b : List Text) → Decides (same_path a b) (a ≡ b)
path_decides a b = pointwise_decides bytes_decides a b

-- where one is open at a path, it is found there
module _ (at : List Text) where
  abbrev IsOne : List Opened → Opened → Type 0
  IsOne os o = (other : Opened) → Contains os other → other.path ≡ at → other ≡ o

  pairs_found : (os : List Opened) (o : Opened) → Contains os o → o.path ≡ at → IsOne os o → pairs_at at os ≡ o.pairs
  pairs_found [] o c e one = absurd (contains_none [] o refl c)
  pairs_found (x ∷ os) o c e one = by_test (same_path x.path at) refl (λ d. pairs_found os o d e (λ other d same. one other (contains_later x os other d) same))
    where
      by_test : (b : Bool) → same_path x.path at ≡ b → (Contains os o → pairs_at at os ≡ o.pairs) → cond b x.pairs (pairs_at at os) ≡ o.pairs
      by_test true is more = ap (λ (y : Opened). y.pairs) (one x (contains_first x os) ((path_decides x.path at).0 is))
      by_test false is more = elim (contains_cases x os o c) [
        | inl same ↦ absurd (true≢false (sym ((path_decides x.path at).1 (ap (λ (y : Opened). y.path) same ∙ e)) ∙ is))
        | inr d ↦ more d
      ]

  values_found : (os : List Opened) (o : Opened) → Contains os o → o.path ≡ at → IsOne os o → values_at at os ≡ o.values
  values_found [] o c e one = absurd (contains_none [] o refl c)
  values_found (x ∷ os) o c e one = by_test (same_path x.path at) refl (λ d. values_found os o d e (λ other d same. one other (contains_later x os other d) same))
    where
      by_test : (b : Bool) → same_path x.path at ≡ b → (Contains os o → values_at at os ≡ o.values) → cond b x.values (values_at at os) ≡ o.values
      by_test true is more = ap (λ (y : Opened). y.values) (one x (contains_first x os) ((path_decides x.path at).0 is))
      by_test false is more = elim (contains_cases x os o c) [
        | inl same ↦ absurd (true≢false (sym ((path_decides x.path at).1 (ap (λ (y : Opened). y.path) same ∙ e)) ∙ is))
        | inr d ↦ more d
      ]

last_by_name : (name : Text) (pairs : List Pair) → last_of name (by_name pairs) ≡ last_of name pairs
last_by_name name pairs = last_sorted name (entries_by_name [] pairs) (sorted_after [] pairs tt) ∙ found_by_name name pairs

-- ---- folders

not_root : (at : List Text) (name : Text) → is_root (at ++ name ∷ []) ≡ false
not_root [] name = refl
not_root (x ∷ at) name = refl

-- just the root has no module above it
rooted : (w : World) (compilation : Compilation) (k : ℕ) (at : List Text) → HasPath w (views w compilation) (nodes w compilation) k at → (node : ModuleNode) → HasNode w compilation k node → is_root at ≡ not (is_some node.parent)
rooted w compilation _ _ (root {node = view} e none) node here =
    sym (ap (λ (o : Option ℕ). not (is_some o)) (ap (λ (v : NodeView). v.parent) (same_Some (node_view node) view (sym (mapped node_view compilation.modules.items 0 node here) ∙ e)) ∙ none))
rooted w compilation _ _ (inside {k} {p} {node = view} {path = at} {name} e some lt named above) node here =
    not_root at name ∙ sym (ap (λ (o : Option ℕ). not (is_some o)) (ap (λ (v : NodeView). v.parent) (same_Some (node_view node) view (sym (mapped node_view compilation.modules.items k node here) ∙ e)) ∙ some))

empty_same : (folder : Option Text) → or_empty folder ≡ text_or_empty folder
empty_same (Some text) = refl
empty_same None = refl

start_same : (work : Text) (o : Option ℕ) (folder : Option Text) → (if is_some o then or_empty folder else work) ≡ cond (not (is_some o)) work (text_or_empty folder)
start_same work None folder = refl
start_same work (Some above) folder = empty_same folder

module _ (w : World) (compilation : Compilation) (given : List Override) (base : Text) (analysis : Analysis) (settled : AllSettle w (overrides_of given) compilation analysis.values.value.settings.items) (config : Config) (root_key : List ℕ)
    (called : List ℕ) (is_read : ℕ → Bool) (runner : Runner) (opened : List Opened) (rests : RestsOn w compilation given base analysis settled config root_key called is_read runner opened) where
  -- ---- what the view of a module has

  pub record IsViewOf (k : ℕ) (node : ModuleNode) (context : ExecutionContext) : Type 0 where
    pub settings : slice_get analysis.values.value.settings.items k ≡ Some context.module.now.settings.now
    pub folder : slice_get analysis.values.value.folders.items k ≡ Some context.module.now.working_directory.now
    pub source : context.module.now.source.now ≡ node.source.now
    pub modules_are : context.module.now.modules.now ≡ compilation.modules.items
    pub place : context.module.now.place ≡ k
    pub unexports : context.module.now.unexports.now ≡ node.unexports.items
    pub is_submodule : context.module.now.is_submodule ≡ is_some node.parent
    pub seen : IsSeenAt analysis.variables k context

  module _ (k : ℕ) (context : ExecutionContext) where
    abbrev own : View
    own = seen context.module.now

    view_parts : (node : ModuleNode) (found : Option ModuleNode) (lists : Option ModuleLists) (order : Option (Vec ℕ)) (settings : Option Settings) (folder : Option (List ℕ)) → found ≡ Some node
        → slice_get analysis.variables.lists.items k ≡ lists → slice_get analysis.variables.orders.items k ≡ order → slice_get analysis.values.value.settings.items k ≡ settings → slice_get analysis.values.value.folders.items k ≡ folder
        → view_of compilation.modules.items k found lists order settings folder ≡ Some own → IsViewOf k node context
    view_parts node None lists order settings folder is a b c d e = absurd (none-some own e)
    view_parts node (Some n) None order settings folder is a b c d e = absurd (none-some own e)
    view_parts node (Some n) (Some lists) None settings folder is a b c d e = absurd (none-some own e)
    view_parts node (Some n) (Some lists) (Some order) None folder is a b c d e = absurd (none-some own e)
    view_parts node (Some n) (Some lists) (Some order) (Some settings) None is a b c d e = absurd (none-some own e)
    view_parts node (Some n) (Some lists) (Some order) (Some settings) (Some folder) is a b c d e =
        let same = sym (same_Some _ own e) in
        let one = same_Some n node is in
        record {
          settings = c ∙ ap (λ (v : View). Some v.settings) (sym same);
          folder = d ∙ ap (λ (v : View). Some v.working_directory) (sym same);
          source = ap (λ (v : View). v.source) same ∙ ap (λ (x : ModuleNode). x.source.now) one;
          modules_are = ap (λ (v : View). v.modules) same;
          place = ap (λ (v : View). v.place) same;
          unexports = ap (λ (v : View). v.unexports) same ∙ ap (λ (x : ModuleNode). x.unexports.items) one;
          is_submodule = ap (λ (v : View). v.is_submodule) same ∙ ap (λ (x : ModuleNode). is_some x.parent) one;
          seen = record {
            lists = lists;
            lists_there = a;
            order = order;
            order_there = b;
            assignments = ap (λ (v : View). v.assignments) same;
            functions = ap (λ (v : View). v.functions) same;
            evaluation_order = ap (λ (v : View). v.evaluation_order) same;
          };
        }

  module _ (rank : ℕ) (s : Stands w compilation given base analysis settled config root_key called is_read runner opened rests rank) where
    abbrev pub at : List Text
    at = path w compilation given base analysis settled config root_key called is_read runner opened rests s.resolved.module

    pub view : IsViewOf s.resolved.module s.node s.context
    view =
        let k = s.resolved.module in
        view_parts k s.context s.node (slice_get compilation.modules.items k) (slice_get analysis.variables.lists.items k) (slice_get analysis.variables.orders.items k) (slice_get analysis.values.value.settings.items k)
        (slice_get analysis.values.value.folders.items k)
        s.home refl refl refl refl s.alike.view

    -- ---- the module's row, its settings and its scene

    abbrev pub configuration : Configuration
    configuration = configuration_of config root_key w.expansion

    abbrev pub ground : Ground
    ground = ground_of configuration (defined w compilation given base analysis settled config root_key) opened

    abbrev pub own_module : ModuleRow
    own_module = module_row (settled.settle s.resolved.module) base (string_bytes config.working_directory) (is_root at) s.node.source.now (map name_text s.node.unexports.items) (sets_of compilation s.node)

    pub inside_is : row_at compilation settled.settle base (string_bytes config.working_directory) at ≡ Some own_module
    inside_is =
        ap (option_and_then (λ k. row_of compilation settled.settle base (string_bytes config.working_directory) at k (slice_get compilation.modules.items k)))
        (found w compilation given base analysis settled config root_key called is_read runner opened rests rank s)
        ∙ ap (row_of compilation settled.settle base (string_bytes config.working_directory) at s.resolved.module) s.home

    has_path : HasPath w (views w compilation) (nodes w compilation) s.resolved.module at
    has_path = has_own_path w compilation rests.numbered.of s.resolved.module s.node s.home

    pub settings_are : AreSettledAs (settled.settle s.resolved.module) (sets_of compilation s.node) s.context.module.now.settings.now
    settings_are = (settled.each s.resolved.module s.node at s.context.module.now.settings.now s.home has_path view.settings).settled

    abbrev pub own_scene : Scene
    own_scene = scene_of ground at own_module

    is_one : (other : Opened) → Contains opened other → other.path ≡ at → other ≡ s.o
    is_one other c e = rests.contexts.apart other s.o c s.among (e ∙ sym s.alike.path)

    pub pairs_are : pairs_at at opened ≡ s.o.pairs
    pairs_are = pairs_found at opened s.o s.among s.alike.path is_one

    pub values_are : values_at at opened ≡ s.o.values
    values_are = values_found at opened s.o s.among s.alike.path is_one

    -- ---- the same module

    folder_is : s.context.module.now.working_directory.now ≡ or_empty (parent (join base s.node.source.now))
    folder_is =
        let all = rests.known.is_known.values_are.folders in
        same_Some s.context.module.now.working_directory.now (folder_of base s.node.source.now)
        (sym view.folder ∙ ap (λ fs. slice_get fs s.resolved.module) all ∙ mapped (λ (node : ModuleNode). folder_of base node.source.now) compilation.modules.items s.resolved.module s.node s.home)

    pub has_config : s.context.config.now ≡ config
    has_config = (configured w compilation given base analysis settled config root_key called is_read runner opened rests rank s).0

    has_root : s.context.root.now ≡ root_key
    has_root = (configured w compilation given base analysis settled config root_key called is_read runner opened rests rank s).1

    same_folder : (surroundings_of s.context).folder ≡ own_module.folder
    same_folder =
        let work = string_bytes config.working_directory in
        let below : Text → Text = λ start. folder_below start s.context.module.now.settings.now.working_directory in
        ap (λ (c : Config). below (if s.context.module.now.is_submodule then s.context.module.now.working_directory.now else string_bytes c.working_directory)) has_config
        ∙ ap (λ (b : Bool). below (if b then s.context.module.now.working_directory.now else work)) view.is_submodule
        ∙ ap (λ (t : Text). below (if is_some s.node.parent then t else work)) folder_is
        ∙ ap below (start_same work s.node.parent (parent (join base s.node.source.now)))
        ∙ ap (λ (b : Bool). below (cond b work (text_or_empty (parent (join base s.node.source.now))))) (sym (rooted w compilation s.resolved.module at has_path s.node s.home))
        ∙ ap (folder_below (cond (is_root at) work (text_or_empty (parent (join base s.node.source.now))))) (sym settings_are.working_directory)

    pub same_module : SameModule (surroundings_of s.context) (surroundings_in configuration own_scene)
    same_module = record {
      arch = ap (λ (c : Config). string_bytes c.arch) has_config;
      base = ap (λ (c : Config). string_bytes c.base) has_config;
      dotenv = λ name. ap (last_of name) s.alike.pairs ∙ last_by_name name s.o.pairs ∙ ap (last_of name) (sym pairs_are);
      dry_run = ap (λ (c : Config). c.dry_run) has_config;
      folder = same_folder;
      invocation_directory = ap (λ (c : Config). string_bytes c.invocation_directory) has_config;
      jobs = ap (λ (c : Config). c.jobs) has_config;
      limit = ap (λ (c : Config). c.recursion_limit) has_config;
      lists = sym settings_are.lists;
      module_path = ap₂ (λ ms k. joined_names (path_in ms k)) view.modules_are view.place;
      os = ap (λ (c : Config). c.os) has_config;
      quiet = ap (λ (c : Config). c.quiet) has_config;
      root = has_root;
      shell =
          ap (λ (c : Config). shell_words (option_map string_bytes c.shell) (option_map (λ arguments. map string_bytes arguments.items) c.shell_args)
          (option_map (λ i. i.command ∷ i.arguments.items) s.context.module.now.settings.now.shell)) has_config
          ∙ ap (shell_words (option_map string_bytes config.shell) (option_map (λ arguments. map string_bytes arguments.items) config.shell_args)) (sym settings_are.shell);
      source = view.source;
      version = ap (λ (c : Config). version_text c.version) has_config;
    }
