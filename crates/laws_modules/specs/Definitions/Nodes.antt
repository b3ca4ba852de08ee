-- Modules whose files and submodules are those of a world, and what is found in them.
use Rattle.std.specs.Prelude.{◌≡◌, ◌≤◌, ◌<◌, ℕ, true, List, Some, drop, take, map, slice_get, Contains}
use Rattle.just_text.specs.declared.os.Os.{Os}
use Rattle.tree_attributes.specs.Attributes.{AttributeShape}
use Rattle.tree_items.specs.Files.{ItemShape, item_shapes, module_item}
use Rattle.tree_items.specs.Items.{ModuleShape}
use Rattle.modules_compilation.specs.declared.module_node.File.{File}
use Rattle.modules_compilation.specs.declared.module_node.ModuleNode.{ModuleNode}
use Rattle.modules_compilation.specs.declared.place.Place.{Place}
use Rattle.modules_definitions.specs.Defining.{AreDefinitions, Stands}
use Rattle.modules_definitions.specs.declared.definition.Definition.{Definition}
use Rattle.modules_definitions.specs.declared.file_range.FileRange.{FileRange}
use Rattle.meaning_rules.specs.Worlds.Given.{Text, World}
use Rattle.meaning_rules.specs.Worlds.Sources.{MayMean, enabled}
use Rattle.meaning_rules.specs.Worlds.Keeping.{Defines, Kind}
use Rattle.meaning_rules.specs.Worlds.Compiled.{IsAt, NodeView}
use Rattle.laws_modules.specs.Files.Files.{AreFiles}
use Rattle.meaning_rules.specs.Worlds.Views.{file_view, node_view}

-- the files that a module takes
abbrev pub range_of : ModuleNode → FileRange
range_of node = record { first = node.first_file; end = node.end_file }

module _ (w : World) (files : List File) (node : ModuleNode) where
  -- an enabled `mod` item stands at a place of the module's files
  pub record HasModuleAt (place : Place) (file : File) (m : ModuleShape) : Type 0 where
    pub from : node.first_file ≤ place.file
    pub to : place.file < node.end_file
    pub found : slice_get files place.file ≡ Some file
    pub attributes : List AttributeShape
    pub there : slice_get (item_shapes file.ast.items.items) place.item ≡ Some (module_item attributes m)
    pub enabled_here : enabled w.os attributes ≡ true

  -- the place is that of such an item, and this module's own file is one that it may mean
  pub record IsOfModule (submodule : ModuleNode) (place : Place) : Type 0 where
    pub file : File
    pub line : ModuleShape
    pub has : HasModuleAt place file line
    pub means : MayMean w file.key.now line submodule.source.now

  module _ (modules : List ModuleNode) where
    -- a submodule of the module, whose item stands at this place
    pub record IsInnerAt (inner : ℕ) (submodule : ModuleNode) (place : Place) : Type 0 where
      pub listed : Contains node.submodules.items inner
      pub found : slice_get modules inner ≡ Some submodule
      pub is : submodule.item ≡ Some place

    -- the module's submodules are those whose items stand in its files and may mean a file
    pub record AreInnerModules : Type 0 where
      pub sound : (inner : ℕ) → Contains node.submodules.items inner → (submodule : ModuleNode) × (place : Place) × IsInnerAt inner submodule place × IsOfModule submodule place
      pub complete : (place : Place) (file : File) (m : ModuleShape) (key : Text) → HasModuleAt place file m → MayMean w file.key.now m key → (inner : ℕ) × (submodule : ModuleNode) × IsInnerAt inner submodule place

    -- the module of this number has the files and submodules that the world says
    pub record Agrees (k : ℕ) : Type 0 where
      pub own_files : AreFiles w k node.source.now (drop node.first_file (take node.end_file files))
      pub inner : AreInnerModules

    -- these are the definitions in it
    pub record AreFound (os : Os) (k : ℕ) (ds : List Definition) : Type 0 where
      pub same_os : w.os ≡ os
      pub agrees : Agrees k
      pub are : AreDefinitions (Stands os files (range_of node) modules node.submodules.items) ds

  module _ (nodes : List NodeView) where
    -- the item at a place of the module's files, by its file's key and its place there without blank lines
    abbrev pub IsHere : Place → Text → ℕ → ItemShape → Type 0
    IsHere = IsAt w (map file_view files) nodes (node_view node)

    -- the item at the place is a definition of the kind and name
    pub record DefinesHere (kind : Kind) (name : Text) (place : Place) : Type 0 where
      pub key : Text
      pub at : ℕ
      pub item : ItemShape
      pub there : IsHere place key at item
      pub defines : Defines w node.source.now kind name key at item
