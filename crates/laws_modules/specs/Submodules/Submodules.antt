-- The submodules that are found in a file, as those of the file of a world.
use Rattle.std.specs.Prelude.{◌≡◌, ℕ, true, false, List, Some, length, slice_get, take}
use Rattle.std.specs.BTreeMap.{BTreeMap}
use Rattle.std.specs.List.{All}
use Rattle.std.specs.declared.string.String.{String}
use Rattle.just_text.specs.declared.os.Os.{Os}
use Rattle.tree_attributes.specs.Attributes.{AttributeShape}
use Rattle.tree_items.specs.Files.{ItemShape, item_shapes, module_item}
use Rattle.tree_items.specs.Items.{ModuleShape}
use Rattle.tree_items.specs.declared.ast.Item.{Item}
use Rattle.parse_expressions.specs.Literals.{Expansion, from_file}
use Rattle.parse_attributed_items.specs.Held.{IsItemCooked}
use Rattle.modules_compilation.specs.declared.error.Error.{Error}
use Rattle.modules_files.specs.declared.search.Files.{Files}
use Rattle.modules_sources.specs.Loaded.{IsLookupOf}
use Rattle.modules_sources.specs.Submodules.{AreFound, Found, IsRefused}
use Rattle.meaning_rules.specs.Worlds.Given.{Overrides, Text, World, filled}
use Rattle.meaning_rules.specs.Worlds.Sources.{HasModule, IsSubmodule, MayMean, Reached, enabled}
use Rattle.meaning_rules.specs.Rules.{Broken}
use Rattle.meaning_rules.specs.Told.{IsTold}
use Rattle.meaning_rules.specs.Worlds.Views.{HasSources, name_text}

module _ (w : World) (key : Text) (items : List ItemShape) where
  -- what was found is a submodule of the world's file: its item is a `mod` item there, which means its file
  pub record IsFoundIn (f : Found) : Type 0 where
    pub is : IsSubmodule w key (name_text f.name) f.file.0
    pub attributes : List AttributeShape
    pub there : slice_get items f.item ≡ Some (module_item attributes is.line)
    pub enabled_here : enabled w.os attributes ≡ true
    pub rank : length (filled (take f.item items)) ≡ is.place

  module _ (found : List Found) where
    -- one was found for a module at a place of the world's file, with this file
    pub record IsFoundFor (place : ℕ) (m : ModuleShape) (k : Text) : Type 0 where
      pub i : ℕ
      pub f : Found
      pub at : slice_get found i ≡ Some f
      pub rank : length (filled (take f.item items)) ≡ place
      pub named : m.name ≡ name_text f.name
      pub file : f.file.0 ≡ k

    -- These are the submodules of the world's file, each once. None that must have a file lacks it, and none may mean several.
    pub record AreSubmodules : Type 0 where
      pub sound : (i : ℕ) (f : Found) → slice_get found i ≡ Some f → IsFoundIn f
      pub complete : (place : ℕ) (m : ModuleShape) (k : Text) → HasModule w key place m → MayMean w key m k → IsFoundFor place m k
      pub clear : (place : ℕ) (m : ModuleShape) → HasModule w key place m → m.optional ≡ false → (k : Text) × MayMean w key m k
      pub alone : (place : ℕ) (m : ModuleShape) → HasModule w key place m → (k other : Text) → MayMean w key m k → MayMean w key m other → k ≡ other
      pub once : (i j : ℕ) (f g : Found) → slice_get found i ≡ Some f → slice_get found j ≡ Some g → f.item ≡ g.item → i ≡ j

module _ {Y Z : Type 0} (sources : BTreeMap (String Y) (String Z)) where
  -- A file of the world, which has files where these sources have texts: the items hold what their strings stand for, and the world says them.
  pub record IsFileOfWorld (expansion : Expansion) (w : World) (os : Os) (lookup : Files) (key : Text) (items : List Item) : Type 0 where
    pub has : HasSources sources expansion w
    pub same_os : w.os ≡ os
    pub looks_up : IsLookupOf sources lookup
    pub cooked : All (IsItemCooked (from_file key expansion)) items
    pub says : w.said key ≡ Some (filled (item_shapes items))

  -- what is found in a file are its submodules
  abbrev pub FoundAreSubmodules : Type 0
  FoundAreSubmodules = (expansion : Expansion) (w : World) (os : Os) (lookup : Files) (key : Text) (items : List Item) (found : List Found)
      → IsFileOfWorld expansion w os lookup key items → AreFound lookup os key items found → AreSubmodules w key (item_shapes items) found

  -- where a submodule of a file that is reached is refused, the world breaks the rule that the refusal names
  abbrev pub RefusalsAreTold : Type 0
  RefusalsAreTold = (expansion : Expansion) (w : World) (os : Os) (lookup : Files) (key : Text) (items : List Item) (refusal : Error)
      → IsFileOfWorld expansion w os lookup key items → Reached w key → IsRefused lookup os key items refusal → (o : Overrides) → IsTold (Broken w o) refusal
