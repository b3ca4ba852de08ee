-- What a name leads to in a module of a compilation, and in a world that the compilation stands for.
use Rattle.std.specs.Prelude.{◌≡◌, ℕ, List, Option, Some, None, map, slice_get}
use Rattle.std.specs.Option.{option_map}
use Rattle.tree_attributes.specs.Attributes.{AttributeShape}
use Rattle.tree_items.specs.Files.{recipe_item}
use Rattle.tree_items.specs.Recipes.{RecipeShape}
use Rattle.modules_compilation.specs.declared.compilation.Compilation.{Compilation}
use Rattle.modules_compilation.specs.declared.module_node.ModuleNode.{ModuleNode}
use Rattle.modules_compilation.specs.declared.place.Place.{Place}
use Rattle.resolve_recipes.specs.Named.{recipe_of, submodule_in}
use Rattle.meaning_rules.specs.Worlds.Given.{Text, World}
use Rattle.meaning_rules.specs.Worlds.Sources.{IsFileOf, IsSubmodule}
use Rattle.meaning_rules.specs.Worlds.Keeping.{IsDefined, IsTwice, KeepsAt, Kind, a_recipe, a_setting, recipes, space_of}
use Rattle.meaning_rules.specs.Worlds.Compiled.{FileView, IsAt, IsCompiled, NodeView}
use Rattle.meaning_rules.specs.Worlds.Views.{file_view, name_text, node_view}

module _ (w : World) (compilation : Compilation) where
  abbrev pub views : List FileView
  views = map file_view compilation.files.items

  abbrev pub nodes : List NodeView
  nodes = map node_view compilation.modules.items

  -- the compilation stands for the modules of the world
  abbrev pub IsOfWorld : Type 0
  IsOfWorld = IsCompiled w views nodes

  -- the node stands at the place
  abbrev pub HasNode : ℕ → ModuleNode → Type 0
  HasNode k node = slice_get compilation.modules.items k ≡ Some node

  -- no module has two definitions of a name among recipes, aliases and submodules
  abbrev pub AreSingle : Type 0
  AreSingle = (k : ℕ) (node : ModuleNode) → HasNode k node → (kind : Kind) (name : Text) → space_of kind ≡ recipes → IsTwice w node.source.now kind name → ⊥

  -- no module has two settings of a name
  abbrev pub AreSetOnce : Type 0
  AreSetOnce = (k : ℕ) (node : ModuleNode) → HasNode k node → (name : Text) → IsTwice w node.source.now a_setting name → ⊥

  -- the recipe of the name that the module keeps stands at the place
  pub record KeepsRecipe (node : ModuleNode) (name : Text) (place : Place) : Type 0 where
    pub key : Text
    pub at : ℕ
    pub attributes : List AttributeShape
    pub recipe : RecipeShape
    pub there : IsAt w views nodes (node_view node) place key at (recipe_item attributes recipe)
    pub keeps : KeepsAt w node.source.now a_recipe name key at (recipe_item attributes recipe)
    pub is_named : recipe.name ≡ name

  -- the place of the recipe that the module keeps, or none where no file of it defines one
  abbrev pub IsRecipeOf : ModuleNode → Text → Option Place → Type 0
  IsRecipeOf node name (Some place) = KeepsRecipe node name place
  IsRecipeOf node name None = IsDefined w node.source.now a_recipe name → ⊥

  -- the node is the submodule of the name
  pub record IsInner (k : ℕ) (node : ModuleNode) (name : Text) (inner : ℕ) (submodule : ModuleNode) : Type 0 where
    pub there : HasNode inner submodule
    pub parent : submodule.parent ≡ Some k
    pub is_named : option_map name_text submodule.name ≡ Some name
    pub file : Text
    pub of : IsFileOf w node.source.now file
    pub is : IsSubmodule w file name submodule.source.now
    pub alone : (other key : Text) → IsFileOf w node.source.now other → IsSubmodule w other name key → key ≡ submodule.source.now

  -- the place of the submodule of the name, or none where no file of the module has one
  abbrev pub IsSubmoduleOf : ℕ → ModuleNode → Text → Option ℕ → Type 0
  IsSubmoduleOf k node name (Some inner) = (submodule : ModuleNode) × IsInner k node name inner submodule
  IsSubmoduleOf k node name None = (file key : Text) → IsFileOf w node.source.now file → IsSubmodule w file name key → ⊥

-- the recipe of a name that is found in a module is that which the module keeps
abbrev pub RecipesAreKept : Type 0
RecipesAreKept = (w : World) (compilation : Compilation) → IsOfWorld w compilation
    → (k : ℕ) (node : ModuleNode) → HasNode w compilation k node → (name : Text) → IsRecipeOf w compilation node name (recipe_of compilation (Some node) name)

-- the submodule of a name that is found in a module is that which the world has
abbrev pub SubmodulesAreFound : Type 0
SubmodulesAreFound = (w : World) (compilation : Compilation) → IsOfWorld w compilation → AreSingle w compilation
    → (k : ℕ) (node : ModuleNode) → HasNode w compilation k node → (name : Text) → IsSubmoduleOf w compilation k node name (submodule_in compilation.modules.items k name)
