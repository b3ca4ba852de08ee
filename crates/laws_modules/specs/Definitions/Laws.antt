-- What is found in a module and kept of it is what the meaning says.
use Rattle.std.specs.Prelude.{◌≡◌, ◌≢◌, ◌↔◌, ◌<◌, ℕ, true, List, [], Some, codes, length, map, slice_get, Contains}
use Rattle.std.specs.Option.{option_map}
use Rattle.just_text.specs.declared.os.Os.{Os}
use Rattle.tree_attributes.specs.Attributes.{AttributeShape}
use Rattle.tree_items.specs.Files.{ItemShape, recipe_item}
use Rattle.tree_items.specs.Items.{ModuleShape}
use Rattle.tree_items.specs.Recipes.{RecipeShape}
use Rattle.modules_compilation.specs.declared.module_node.File.{File}
use Rattle.modules_compilation.specs.declared.module_node.ModuleNode.{ModuleNode}
use Rattle.modules_compilation.specs.declared.place.Place.{Place}
use Rattle.modules_definitions.specs.Keeping.{AreInOrder, AreKept, IsDuplicate, ShareName}
use Rattle.modules_definitions.specs.Lists.{Gains, IsSameModule}
use Rattle.modules_definitions.specs.declared.definition.Definition.{Definition}
use Rattle.modules_definitions.specs.declared.definition.Kind.TheVariants.{Disabled}
use Rattle.modules_definitions.specs.declared.keep.Allowed.{Allowed}
use Rattle.meaning_rules.specs.Worlds.Given.{Text, World}
use Rattle.meaning_rules.specs.Worlds.Keeping.{Defines, IsDisabled, IsOn, IsTwice, KeepsAt, Kind, an_alias, a_function, a_setting, a_variable}
use Rattle.meaning_rules.specs.Worlds.Compiled.{AreDisabled, AreInner, AreRecipes, AreUnexports, HasDisabled, HasList, NodeView}
use Rattle.meaning_rules.specs.Worlds.Views.{file_view, name_text, node_view}
use Rattle.laws_modules.specs.Definitions.Kinds.{kind_of}
use Rattle.laws_modules.specs.Definitions.Nodes.{AreFound, DefinesHere, HasModuleAt, IsHere, IsInnerAt}

-- ---- what is found

module _ (w : World) (files : List File) (node : ModuleNode) (nodes : List NodeView) where
  -- a definition among these, of the meaning's kind and name, and where it stands
  pub record IsAmong (ds : List Definition) (kind : Kind) (name key : Text) (at : ℕ) (item : ItemShape) : Type 0 where
    pub d : Definition
    pub listed : Contains ds d
    pub kind_is : kind_of d.kind ≡ Some kind
    pub text_is : d.text.now ≡ name
    pub there : IsHere w files node nodes d.place key at item

  -- these are the definitions of the meaning, and the recipes that another system disables
  pub record AreMeant (ds : List Definition) : Type 0 where
    pub sound : (d : Definition) (kind : Kind) → Contains ds d → kind_of d.kind ≡ Some kind → DefinesHere w files node nodes kind d.text.now d.place
    pub complete : (kind : Kind) (name key : Text) (at : ℕ) (item : ItemShape) → Defines w node.source.now kind name key at item → IsAmong ds kind name key at item
    pub disabled : (d : Definition) → Contains ds d → d.kind ≡ Disabled → HasDisabled w (map file_view files) nodes (node_view node) d.text.now d.place
    pub all_disabled : (key : Text) (at : ℕ) (attributes : List AttributeShape) (r : RecipeShape) → IsDisabled w node.source.now key at attributes r
        → (d : Definition) × Contains ds d × (d.kind ≡ Disabled) × (d.text.now ≡ r.name) × IsHere w files node nodes d.place key at (recipe_item attributes r)

  -- the item at the place is the definition that the module keeps
  pub record KeepsHere (kind : Kind) (name : Text) (place : Place) : Type 0 where
    pub key : Text
    pub at : ℕ
    pub item : ItemShape
    pub there : IsHere w files node nodes place key at item
    pub keeps : KeepsAt w node.source.now kind name key at item

abbrev pub DefinitionsAreMeant : Type 0
DefinitionsAreMeant = (w : World) (os : Os) (files : List File) (modules : List ModuleNode) (nodes : List NodeView) (k : ℕ) (node : ModuleNode) (ds : List Definition)
    → AreFound w files node modules os k ds → AreMeant w files node nodes ds

-- ---- what is kept

-- definitions of one name are of one kind
abbrev pub AreOfOneKind : List Definition → Type 0
AreOfOneKind ds = (e d : Definition) → Contains ds e → Contains ds d → ShareName e d → kind_of e.kind ≡ kind_of d.kind

-- they are where no definition is a second one that may not stand
abbrev pub SingleAreOfOneKind : Type 0
SingleAreOfOneKind = (w : World) (os : Os) (files : List File) (modules : List ModuleNode) (k : ℕ) (node : ModuleNode) (ds : List Definition) (allowed : Allowed)
    → AreFound w files node modules os k ds → ((second : Definition) → IsDuplicate allowed ds second → ⊥) → AreOfOneKind ds

-- what is kept the module keeps
abbrev pub KeptAreMeant : Type 0
KeptAreMeant = (w : World) (os : Os) (files : List File) (modules : List ModuleNode) (nodes : List NodeView) (k : ℕ) (node : ModuleNode) (ds kept : List Definition)
    → AreFound w files node modules os k ds → AreInOrder ds → AreKept ds kept
    → (d : Definition) (kind : Kind) → Contains kept d → kind_of d.kind ≡ Some kind → KeepsHere w files node nodes kind d.text.now d.place

-- what the module keeps is kept, where definitions of one name are of one kind
abbrev pub MeantAreKept : Type 0
MeantAreKept = (w : World) (os : Os) (files : List File) (modules : List ModuleNode) (nodes : List NodeView) (k : ℕ) (node : ModuleNode) (ds kept : List Definition)
    → AreFound w files node modules os k ds → AreInOrder ds → AreKept ds kept → AreOfOneKind ds
    → (kind : Kind) (name key : Text) (at : ℕ) (item : ItemShape) → KeepsAt w node.source.now kind name key at item → IsAmong w files node nodes kept kind name key at item

-- ---- lists

-- no two disabled recipes among them stand at one place
abbrev pub AreDisabledApart : List Definition → Type 0
AreDisabledApart ds = (i j : ℕ) (a b : Definition) → i < j → slice_get ds i ≡ Some a → slice_get ds j ≡ Some b → a.kind ≡ Disabled → b.kind ≡ Disabled → a.place ≢ b.place

-- no lists but that of submodules have anything
pub record IsEmpty (node : ModuleNode) : Type 0 where
  pub aliases : node.aliases.items ≡ []
  pub assignments : node.assignments.items ≡ []
  pub disabled : node.disabled.items ≡ []
  pub functions : node.functions.items ≡ []
  pub recipes : node.recipes.items ≡ []
  pub recipe_names : node.recipe_names.items ≡ []
  pub sets : node.sets.items ≡ []
  pub unexports : node.unexports.items ≡ []

-- the lists of a module are what it keeps
pub record AreLists (w : World) (files : List File) (nodes : List NodeView) (node : ModuleNode) : Type 0 where
  pub aliases : HasList w (map file_view files) nodes (node_view node) an_alias node.aliases.items
  pub assignments : HasList w (map file_view files) nodes (node_view node) a_variable node.assignments.items
  pub functions : HasList w (map file_view files) nodes (node_view node) a_function node.functions.items
  pub recipes : AreRecipes w (map file_view files) nodes (node_view node)
  pub sets : HasList w (map file_view files) nodes (node_view node) a_setting node.sets.items
  pub unexports : AreUnexports w (map file_view files) nodes (node_view node)
  pub disabled : AreDisabled w (map file_view files) nodes (node_view node)

-- what is found in a module, in order, where no definition is a second one that may not stand, and what is kept of it
pub record AreSettled (w : World) (os : Os) (files : List File) (modules : List ModuleNode) (k : ℕ) (node : ModuleNode) (ds kept : List Definition) : Type 0 where
  pub found : AreFound w files node modules os k ds
  pub order : AreInOrder ds
  pub apart : AreDisabledApart ds
  pub allowed : Allowed
  pub single : (second : Definition) → IsDuplicate allowed ds second → ⊥
  pub keeps : AreKept ds kept

abbrev pub ListsAreMeant : Type 0
ListsAreMeant = (w : World) (os : Os) (files : List File) (modules : List ModuleNode) (nodes : List NodeView) (k : ℕ) (before after : ModuleNode) (ds kept : List Definition)
    → AreSettled w os files modules k before ds kept → IsEmpty before → Gains [] before after kept → AreLists w files nodes after

-- the modules afterwards are the same but for their lists
pub record AreSame (before after : List ModuleNode) : Type 0 where
  pub count : length after ≡ length before
  pub each : (place : ℕ) (node : ModuleNode) → slice_get before place ≡ Some node → (new : ModuleNode) × (slice_get after place ≡ Some new) × IsSameModule node new

-- the module's submodules are those whose parent it is, each with the name that its item has
pub record AreChildren (w : World) (files : List File) (modules : List ModuleNode) (k : ℕ) (node : ModuleNode) : Type 0 where
  pub parents : (inner : ℕ) (submodule : ModuleNode) → Contains node.submodules.items inner → slice_get modules inner ≡ Some submodule → submodule.parent ≡ Some k
  pub named : (inner : ℕ) (submodule : ModuleNode) (place : Place) (file : File) (m : ModuleShape) → IsInnerAt w files node modules inner submodule place → HasModuleAt w files node place file m → option_map name_text submodule.name ≡ Some m.name
  pub complete : (inner : ℕ) (submodule : ModuleNode) → slice_get modules inner ≡ Some submodule → submodule.parent ≡ Some k → Contains node.submodules.items inner

abbrev pub SubmodulesAreMeant : Type 0
SubmodulesAreMeant = (w : World) (os : Os) (files : List File) (modules later : List ModuleNode) (k : ℕ) (before after : ModuleNode) (ds kept : List Definition)
    → AreSettled w os files modules k before ds kept → AreChildren w files modules k before → AreSame modules later → Gains [] before after kept
    → AreInner w (map file_view files) (map node_view later) k after.submodules.items

-- ---- what has two definitions

-- what may be repeated is what the module's settings allow
pub record IsAllowed (w : World) (own : Text) (allowed : Allowed) : Type 0 where
  pub recipes : (allowed.duplicate_recipes ≡ true) ↔ IsOn w own (codes "allow-duplicate-recipes")
  pub variables : (allowed.duplicate_variables ≡ true) ↔ IsOn w own (codes "allow-duplicate-variables")

-- no two of them stand at one place
abbrev pub AreApart : List Definition → Type 0
AreApart ds = (i j : ℕ) (a b : Definition) → i < j → slice_get ds i ≡ Some a → slice_get ds j ≡ Some b → a.place ≢ b.place

-- a second definition is one of a name that has two
abbrev pub DuplicatesAreTwice : Type 0
DuplicatesAreTwice = (w : World) (os : Os) (files : List File) (modules : List ModuleNode) (k : ℕ) (node : ModuleNode) (ds : List Definition) (allowed : Allowed) (second : Definition)
    → AreFound w files node modules os k ds → AreApart ds → IsAllowed w node.source.now allowed → IsDuplicate allowed ds second
    → (kind : Kind) × (kind_of second.kind ≡ Some kind) × IsTwice w node.source.now kind second.text.now

-- where there is no second definition, no name has two
abbrev pub SingleIsNotTwice : Type 0
SingleIsNotTwice = (w : World) (os : Os) (files : List File) (modules : List ModuleNode) (k : ℕ) (node : ModuleNode) (ds : List Definition) (allowed : Allowed)
    → AreFound w files node modules os k ds → IsAllowed w node.source.now allowed → ((second : Definition) → IsDuplicate allowed ds second → ⊥)
    → (kind : Kind) (name : Text) → IsTwice w node.source.now kind name → ⊥
