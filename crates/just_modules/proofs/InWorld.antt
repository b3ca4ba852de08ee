-- The modules of a justfile that is loaded, with what is found in them, in a world that its sources stand for.
use Rattle.std.proofs.Common.{◌≡◌, sym, subst, true, Bool, ℕ, List, Some, refl}
use Rattle.std.specs.Prelude.{slice_get, Contains, codes}
use Rattle.std.specs.BTreeMap.{BTreeMap}
use Rattle.std.specs.declared.string.String.{String}
use Rattle.just_text.specs.Numbers.{Numbers}
use Rattle.just_text.specs.declared.os.Os.{Os}
use Rattle.parse_expressions.specs.Literals.{Expansion}
use Rattle.semver.specs.declared.Version.{Version}
use Rattle.modules_compilation.specs.declared.compilation.Compilation.{Compilation}
use Rattle.modules_compilation.specs.declared.module_node.File.{File}
use Rattle.modules_compilation.specs.declared.module_node.ModuleNode.{ModuleNode}
use Rattle.modules_definitions.specs.declared.definition.Definition.{Definition}
use Rattle.modules_sources.specs.Loaded.{AreLoaded}
use Rattle.meaning_rules.specs.Worlds.Given.{Text, World}
use Rattle.meaning_rules.specs.Worlds.Sources.{AreSaid}
use Rattle.meaning_rules.specs.Worlds.Standing.{StandsFor}
use Rattle.laws_modules.specs.Files.Files.{AreFiles}
use Rattle.meaning_rules.specs.Worlds.Views.{given_of}
use Rattle.laws_modules.proofs.Files.Followed.{has_sources}
use Rattle.laws_modules.proofs.Files.Loaded.{loaded_are_files}
use Rattle.laws_modules.proofs.Submodules.Files.{found_are_submodules}
use Rattle.laws_modules.specs.Definitions.Laws.{AreApart, IsAllowed}
use Rattle.laws_modules.specs.Definitions.Nodes.{AreFound}
use Rattle.laws_modules.specs.Modules.Laws.{IsLoaded}
use Rattle.laws_modules.specs.Modules.Modules.{AreModules}
use Rattle.laws_modules.proofs.Modules.Inner.{inner_modules, own_items}
use Rattle.laws_modules.proofs.Modules.Loaded.{all_said, loaded_are_modules}
use Rattle.laws_modules.proofs.Modules.Said.{loaded_said}
use Rattle.just_modules.specs.Fitting.{IsParsed}
use Rattle.just_modules.specs.Keeping.{AreDefinitionsOf, files_of, range_of, truths_in}
use Rattle.just_modules.specs.Settings.{allowed_by}
use Rattle.just_modules.proofs.ItemsRead.{files_parsed}
use Rattle.just_modules.proofs.ModuleSettings.{on_is_on}

module _ {Y Z : Type 0} (sources : BTreeMap (String Y) (String Z)) (expansion : Expansion) (version : Version) (os : Os) (unstable : Bool) (start : Numbers) (root : Text) (loaded : Compilation)
    (are : AreLoaded sources expansion version os start true root loaded) (w : World) (stands : StandsFor (given_of sources os unstable expansion version root) w) where
  -- the justfile is loaded, and where the world reaches its files, they say what the world says
  abbrev pub is_loaded : IsLoaded sources w loaded
  is_loaded = record {
    os = os;
    expansion = expansion;
    version = version;
    root = root;
    start = start;
    has = has_sources sources os unstable expansion version root w stands;
    same_os = stands.same_os;
    same_root = stands.same_root;
    said = loaded_said sources expansion version os start loaded.files.items loaded.modules.items are.modules are.linked.covered unstable root w stands;
    are = are;
  }

  pub modules : AreModules w loaded.files.items loaded.modules.items
  modules = loaded_are_modules sources (loaded_are_files sources) (found_are_submodules sources) w loaded is_loaded

  pub are_said : AreSaid w
  are_said = all_said sources (loaded_are_files sources) (found_are_submodules sources) w loaded is_loaded

  module _ (k : ℕ) (node : ModuleNode) (e : slice_get loaded.modules.items k ≡ Some node) where
    pub node_files : AreFiles w k node.source.now (files_of loaded.files.items (range_of node))
    node_files = (modules.each k node e).own_files

    pub node_parsed : (file : File) → Contains (files_of loaded.files.items (range_of node)) file → IsParsed w.expansion file
    node_parsed file c = subst (λ x. IsParsed x file) (sym stands.same_expansion) (files_parsed sources expansion version k node.source.now (files_of loaded.files.items (range_of node)) ((are.modules k node e).own_files refl) file c)

    -- what the settings of the module allow
    pub node_allowed : IsAllowed w node.source.now (allowed_by (truths_in os unstable loaded.files.items (range_of node)))
    node_allowed = record {
      recipes = on_is_on w k node.source.now (files_of loaded.files.items (range_of node)) os node_files stands.same_os (codes "allow-duplicate-recipes");
      variables = on_is_on w k node.source.now (files_of loaded.files.items (range_of node)) os node_files stands.same_os (codes "allow-duplicate-variables");
    }

    -- the definitions of the module are found in it, and stand apart
    pub node_found : (definitions : List Definition) → AreDefinitionsOf os unstable loaded.files.items loaded.modules.items node definitions → AreFound w loaded.files.items node loaded.modules.items os k definitions
    node_found definitions defined = record {
      same_os = stands.same_os;
      agrees = record {
        own_files = node_files;
        inner = inner_modules sources (loaded_are_files sources) (found_are_submodules sources) w loaded is_loaded k node e;
      };
      are = defined.each;
    }

    pub node_apart : (definitions : List Definition) → AreDefinitionsOf os unstable loaded.files.items loaded.modules.items node definitions → AreApart definitions
    node_apart definitions defined = defined.apart (own_items sources (loaded_are_files sources) (found_are_submodules sources) w loaded is_loaded k node e)
