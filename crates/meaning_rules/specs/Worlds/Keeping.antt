-- What items define, and which definitions a module keeps.
use Rattle.std.specs.Prelude.{◌≡◌, ◌≢◌, ◌⊎◌, ℕ, ◌≤◌, true, false, if◌then◌else◌, List, Option, Some, None, codes, slice_get}
use Rattle.just_text.specs.declared.os.Os.{Os}
use Rattle.tree_attributes.specs.Attributes.{AttributeShape}
use Rattle.tree_attributes.specs.Settings.{SetShape, ValueShape, truth}
use Rattle.tree_items.specs.Files.{ItemShape, alias_item, assignment_item, function_item, module_item, recipe_item, set_item, unexport_item}
use Rattle.tree_items.specs.Recipes.{RecipeShape}
use Rattle.meaning_rules.specs.Worlds.Given.{Text, World}
use Rattle.meaning_rules.specs.Worlds.Sources.{Has, IsFileOf, enabled, MayMean}
use Rattle.meaning_rules.specs.Worlds.Modules.{IsReadingOrder}

-- what a definition is
pub data Kind : Type 0 where
  an_alias : Kind
  a_function : Kind
  a_recipe : Kind
  a_setting : Kind
  a_submodule : Kind
  a_variable : Kind
  an_unexport : Kind

-- names of one space are told apart: recipes, aliases and submodules share theirs
pub data Space : Type 0 where
  functions : Space
  recipes : Space
  settings : Space
  unexports : Space
  variables : Space

abbrev pub space_of : Kind → Space
space_of an_alias = recipes
space_of a_function = functions
space_of a_recipe = recipes
space_of a_setting = settings
space_of a_submodule = recipes
space_of a_variable = variables
space_of an_unexport = unexports

abbrev pub if_enabled : Os → List AttributeShape → Kind → Text → Option (Kind × Text)
if_enabled os attributes kind name = if enabled os attributes then Some (kind, name) else None

-- what an item defines; one for another system nothing, and a submodule where its file is there
abbrev pub defined_by : Os → ItemShape → Option (Kind × Text)
defined_by os (alias_item attributes a) = Some (an_alias, a.name)
defined_by os (assignment_item attributes a) = if_enabled os attributes a_variable a.name
defined_by os (function_item f) = Some (a_function, f.name)
defined_by os (module_item attributes m) = if_enabled os attributes a_submodule m.name
defined_by os (recipe_item attributes r) = if_enabled os attributes a_recipe r.name
defined_by os (set_item attributes s) = if_enabled os attributes a_setting s.name
defined_by os (unexport_item name) = Some (an_unexport, name)
defined_by os other = None

module _ (w : World) where
  -- the file of a submodule is there
  abbrev pub IsTaken : Text → ItemShape → Type 0
  IsTaken file (module_item attributes m) = (key : Text) × MayMean w file m key
  IsTaken file other = Unit {0}

  -- the item at a place of a file of the module is a definition
  pub record Defines (own : Text) (kind : Kind) (name key : Text) (place : ℕ) (item : ItemShape) : Type 0 where
    pub of : IsFileOf w own key
    pub has : Has w key place item
    pub is : defined_by w.os item ≡ Some (kind, name)
    pub taken : IsTaken key item

  -- a module has a definition of the kind and name, whichever it keeps
  pub record IsDefined (own : Text) (kind : Kind) (name : Text) : Type 0 where
    pub key : Text
    pub place : ℕ
    pub item : ItemShape
    pub defines : Defines own kind name key place item

  -- a module sets this to that, by a setting that is not dropped
  pub record IsSet (own : Text) (name : Text) (value : ValueShape) : Type 0 where
    pub key : Text
    pub place : ℕ
    pub attributes : List AttributeShape
    pub setting : SetShape
    pub defines : Defines own a_setting name key place (set_item attributes setting)
    pub is : setting.value ≡ value

  abbrev pub IsOn : Text → Text → Type 0
  IsOn own name = IsSet own name (truth true)

  -- two definitions of these kinds may have one name
  pub data MayBoth (own : Text) : Kind → Kind → Type 0 where
    both_recipes : IsOn own (codes "allow-duplicate-recipes") → MayBoth own a_recipe a_recipe
    both_variables : IsOn own (codes "allow-duplicate-variables") → MayBoth own a_variable a_variable

  -- a module has two definitions of a name in a space, where it may have one
  pub record IsTwice (own : Text) (kind : Kind) (name : Text) : Type 0 where
    pub key : Text
    pub place : ℕ
    pub item : ItemShape
    pub defines : Defines own kind name key place item
    pub kind' : Kind
    pub key' : Text
    pub place' : ℕ
    pub item' : ItemShape
    pub defines' : Defines own kind' name key' place' item'
    pub spaces : space_of kind ≡ space_of kind'
    pub others : (key ≢ key') ⊎ (place ≢ place')
    pub forbidden : MayBoth own kind kind' → ⊥

  -- A module keeps the definition at this place of this file: that in the first file in reading order that has one, and in this file the last. (So that of least depth, among equals that of the earliest file.)
  pub record KeepsAt (own : Text) (kind : Kind) (name key : Text) (place : ℕ) (item : ItemShape) : Type 0 where
    pub defines : Defines own kind name key place item
    pub files : List Text
    pub order : IsReadingOrder w own files
    pub at : ℕ
    pub found : slice_get files at ≡ Some key
    pub first : (at' : ℕ) (key' : Text) (place' : ℕ) (item' : ItemShape) → slice_get files at' ≡ Some key' → Defines own kind name key' place' item' → at ≤ at'
    pub last : (place' : ℕ) (item' : ItemShape) → Defines own kind name key place' item' → place' ≤ place

  -- the same where it doesn't matter where it stands
  pub record Keeps (own : Text) (kind : Kind) (name : Text) (item : ItemShape) : Type 0 where
    pub key : Text
    pub place : ℕ
    pub kept : KeepsAt own kind name key place item

  -- a recipe in a file of the module that another system disables
  pub record IsDisabled (own key : Text) (place : ℕ) (attributes : List AttributeShape) (r : RecipeShape) : Type 0 where
    pub of : IsFileOf w own key
    pub has : Has w key place (recipe_item attributes r)
    pub disabled : enabled w.os attributes ≡ false

-- a module keeps one definition of a kind and name at most
abbrev pub KeepsAtMostOne : Type 0
KeepsAtMostOne = (w : World) (own : Text) (kind : Kind) (name key key' : Text) (place place' : ℕ) (item item' : ItemShape)
    → KeepsAt w own kind name key place item → KeepsAt w own kind name key' place' item' → (key ≡ key') × (place ≡ place') × (item ≡ item')
