-- Files that were loaded, as the files of a module of a world.
use Rattle.std.specs.Prelude.{◌≡◌, ℕ, min, List, Some, map, slice_get}
use Rattle.tree_items.specs.Files.{item_shapes}
use Rattle.modules_compilation.specs.declared.module_node.File.{File}
use Rattle.meaning_rules.specs.Worlds.Given.{Text, World, filled}
use Rattle.meaning_rules.specs.Worlds.Sources.{Imports, IsDepth, IsFileOf, Leads, Reached}
use Rattle.meaning_rules.specs.Worlds.Modules.{IsReadingOrder}

abbrev pub keys_of : List File → List Text
keys_of files = map (λ file. file.key.now) files

module _ (w : World) where
  -- the file says what the world says at its key
  abbrev pub IsSaid : File → Type 0
  IsSaid file = w.said file.key.now ≡ Some (filled (item_shapes file.ast.items.items))

  -- so does each of the files that the world reaches
  abbrev pub AreSaidWhereReached : List File → Type 0
  AreSaidWhereReached files = (place : ℕ) (file : File) → slice_get files place ≡ Some file → Reached w file.key.now → IsSaid file

  module _ (owner : ℕ) (own : Text) where
    -- the file is one of the module, which has this number and this own file, as deep as imports lead to it
    pub record IsFile (file : File) : Type 0 where
      pub of : IsFileOf w own file.key.now
      pub says : IsSaid file
      pub owner_is : file.module ≡ owner
      pub depth : ℕ
      pub least : IsDepth w own file.key.now depth
      pub depth_is : file.depth ≡ min depth 4294967295

    -- these are the module's files, in reading order, and none imports itself through others
    pub record AreFiles (files : List File) : Type 0 where
      pub order : IsReadingOrder w own (keys_of files)
      pub each : (place : ℕ) (file : File) → slice_get files place ≡ Some file → IsFile file
      pub no_round : (file other : Text) (count : ℕ) → IsFileOf w own file → Imports w file other → Leads w other count file → ⊥
