-- Modules that were loaded, as the modules of a world.
use Rattle.std.specs.Prelude.{◌≡◌, ℕ, List, Some, map, slice_get}
use Rattle.modules_compilation.specs.declared.module_node.File.{File}
use Rattle.modules_compilation.specs.declared.module_node.ModuleNode.{ModuleNode}
use Rattle.modules_sources.specs.Loaded.{files_of}
use Rattle.meaning_rules.specs.Worlds.Given.{Text, World}
use Rattle.meaning_rules.specs.Worlds.Modules.{IsModule}
use Rattle.meaning_rules.specs.Worlds.Compiled.{HasItem, HasPath}
use Rattle.laws_modules.specs.Files.Files.{AreFiles}
use Rattle.meaning_rules.specs.Worlds.Views.{file_view, node_view}

module _ (w : World) (files : List File) (modules : List ModuleNode) where
  -- the names from the root to the module at a place
  abbrev pub IsPath : ℕ → List Text → Type 0
  IsPath = HasPath w (map file_view files) (map node_view modules)

  -- the module at a place is one of the world's, with its item in its parent, and with its files
  pub record IsModuleAt (k : ℕ) (node : ModuleNode) : Type 0 where
    pub path : List Text
    pub has_path : IsPath k path
    pub is : IsModule w path node.source.now
    pub item : HasItem w (map file_view files) (map node_view modules) (node_view node) node.parent
    pub own_files : AreFiles w k node.source.now (files_of files node)

  -- a module of the world stands at a place
  pub record HasPlace (path : List Text) (own : Text) : Type 0 where
    pub k : ℕ
    pub node : ModuleNode
    pub there : slice_get modules k ≡ Some node
    pub source : node.source.now ≡ own
    pub has_path : IsPath k path

  -- these are the modules of the world
  pub record AreModules : Type 0 where
    pub each : (k : ℕ) (node : ModuleNode) → slice_get modules k ≡ Some node → IsModuleAt k node
    pub complete : (path : List Text) (own : Text) → IsModule w path own → HasPlace path own
