-- What paths of names lead to in a compilation, and in a world that the compilation stands for.
use Rattle.std.specs.Prelude.{◌≡◌, ◌≢◌, ℕ, List, ◌∷◌, ◌++◌, Some, slice_get, []}
use Rattle.just_text.specs.Tokens.{lexeme}
use Rattle.just_text.specs.declared.name.Name.{Name}
use Rattle.tree_attributes.specs.Attributes.{AttributeShape}
use Rattle.tree_items.specs.Recipes.{RecipeShape}
use Rattle.tree_items.specs.Paths.{path_names}
use Rattle.tree_items.specs.declared.item.Alias.{Alias}
use Rattle.modules_compilation.specs.declared.compilation.Compilation.{Compilation}
use Rattle.modules_compilation.specs.declared.compilation.Target.{Target}
use Rattle.modules_compilation.specs.declared.compilation.Target.TheVariants.{Recipe, Module, Nothing}
use Rattle.modules_compilation.specs.declared.module_node.ModuleNode.{ModuleNode}
use Rattle.modules_compilation.specs.declared.place.Place.{Place}
use Rattle.resolve_recipes.specs.Aliases.{alias_at}
use Rattle.resolve_recipes.specs.Leading.{target_in}
use Rattle.meaning_rules.specs.Worlds.Given.{Overrides, Text, World}
use Rattle.meaning_rules.specs.Worlds.Sources.{AreSaid}
use Rattle.meaning_rules.specs.Worlds.Compiled.{HasPath}
use Rattle.meaning_rules.specs.Depending.{IsModulePath, IsRecipePath, LeadsTo, LeadsToRecipe}
use Rattle.meaning_rules.specs.Rules.{Breaks, Broken, module_as_recipe, unknown_alias_target}
use Rattle.laws_modules.specs.Names.Names.{AreSingle, HasNode, IsOfWorld, KeepsRecipe, nodes, views}

module _ (w : World) (compilation : Compilation) where
  -- names lead from the one node to the other, in the compilation and in the world
  pub record LeadsFrom (k : ℕ) (node : ModuleNode) (names : List Text) (inner : ℕ) (submodule : ModuleNode) : Type 0 where
    pub there : HasNode w compilation inner submodule
    pub below : (above : List Text) → HasPath w (views w compilation) (nodes w compilation) k above → HasPath w (views w compilation) (nodes w compilation) inner (above ++ names)
    pub leads : LeadsTo w node.source.now names submodule.source.now
    pub alone : (key : Text) → LeadsTo w node.source.now names key → key ≡ submodule.source.now

  -- the path leads to the recipe at the place, which the module there keeps
  pub record LeadsToPlace (k : ℕ) (node : ModuleNode) (path : List Text) (inner : ℕ) (place : Place) : Type 0 where
    pub modules : List Text
    pub name : Text
    pub whole : path ≡ modules ++ name ∷ []
    pub submodule : ModuleNode
    pub leads : LeadsFrom k node modules inner submodule
    pub keeps : KeepsRecipe w compilation submodule name place

  -- what the path leads to from the module at a place: a recipe, else a module, else nothing
  abbrev pub IsTarget : ℕ → ModuleNode → List Text → Target → Type 0
  IsTarget k node path (Recipe inner place) = LeadsToPlace k node path inner place × (IsModulePath w node.source.now path → ⊥)
  IsTarget k node path (Module inner) = ((submodule : ModuleNode) × LeadsFrom k node path inner submodule) × (IsRecipePath w node.source.now path → ⊥)
  IsTarget k node path Nothing = (IsRecipePath w node.source.now path → ⊥) × (IsModulePath w node.source.now path → ⊥)

-- a path leads in the world to what it leads to in the compilation
abbrev pub TargetsAreMeant : Type 0
TargetsAreMeant = (w : World) (compilation : Compilation) → IsOfWorld w compilation → AreSingle w compilation
    → (k : ℕ) (node : ModuleNode) → HasNode w compilation k node → (names : List Name) → IsTarget w compilation k node (path_names names) (target_in compilation k names)

-- it is a recipe's exactly where the path leads to a recipe, a module's exactly where it leads to a module, and none exactly where it leads to neither
pub record IsExact (w : World) (compilation : Compilation) (own : Text) (path : List Text) (target : Target) : Type 0 where
  pub recipe : IsRecipePath w own path → (inner : ℕ) × (place : Place) × (target ≡ Recipe inner place)
  pub from_recipe : (inner : ℕ) (place : Place) → target ≡ Recipe inner place → IsRecipePath w own path
  pub module' : IsModulePath w own path → (inner : ℕ) × (target ≡ Module inner)
  pub from_module : (inner : ℕ) → target ≡ Module inner → IsModulePath w own path
  pub nothing : (IsRecipePath w own path → ⊥) → (IsModulePath w own path → ⊥) → target ≡ Nothing
  pub from_nothing : target ≡ Nothing → (IsRecipePath w own path → ⊥) × (IsModulePath w own path → ⊥)

abbrev pub TargetsAreExact : Type 0
TargetsAreExact = (w : World) (compilation : Compilation) → IsOfWorld w compilation → AreSingle w compilation
    → (k : ℕ) (node : ModuleNode) → HasNode w compilation k node → (names : List Name) → IsExact w compilation node.source.now (path_names names) (target_in compilation k names)

-- the recipe that a path leads to in the world is that to which it leads in the compilation
pub record IsPlaceOf (w : World) (compilation : Compilation) (k : ℕ) (node : ModuleNode) (path modules : List Text) (name : Text) (attributes : List AttributeShape) (r : RecipeShape) (target : Target) : Type 0 where
  pub inner : ℕ
  pub place : Place
  pub is : target ≡ Recipe inner place
  pub leads : LeadsToPlace w compilation k node path inner place
  pub same_modules : leads.modules ≡ modules
  pub same_name : leads.name ≡ name
  pub same_attributes : leads.keeps.attributes ≡ attributes
  pub same_recipe : leads.keeps.recipe ≡ r

abbrev pub LedRecipesStand : Type 0
LedRecipesStand = (w : World) (compilation : Compilation) → IsOfWorld w compilation → AreSingle w compilation
    → (k : ℕ) (node : ModuleNode) → HasNode w compilation k node → (names : List Name) (modules : List Text) (name : Text) (attributes : List AttributeShape) (r : RecipeShape)
    → LeadsToRecipe w node.source.now (path_names names) modules name attributes r → IsPlaceOf w compilation k node (path_names names) modules name attributes r (target_in compilation k names)

-- the recipe to which a path leads in the compilation is that to which it leads in the world
abbrev pub StandingRecipesAreLed : Type 0
StandingRecipesAreLed = (w : World) (compilation : Compilation) (k : ℕ) (node : ModuleNode) (path : List Text) (inner : ℕ) (place : Place) (leads : LeadsToPlace w compilation k node path inner place)
    → LeadsToRecipe w node.source.now path leads.modules leads.name leads.keeps.attributes leads.keeps.recipe

-- ---- aliases

module _ (w : World) (compilation : Compilation) where
  -- the module at a place keeps an alias there
  pub record KeepsAlias (k : ℕ) (alias : Alias (List Name)) : Type 0 where
    pub node : ModuleNode
    pub here : HasNode w compilation k node
    pub i : ℕ
    pub place : Place
    pub listed : slice_get node.aliases.items i ≡ Some place
    pub there : alias_at compilation place ≡ Some alias

-- where all aliases lead somewhere, no alias has an unknown target
abbrev pub LeadingAliasesAreKnown : Type 0
LeadingAliasesAreKnown = (w : World) (compilation : Compilation) → IsOfWorld w compilation → AreSingle w compilation
    → ((k : ℕ) (alias : Alias (List Name)) → KeepsAlias w compilation k alias → target_in compilation k alias.target ≢ Nothing)
    → (o : Overrides) (alias : Text) (target : List Text) → Breaks w o (unknown_alias_target alias target) → ⊥

-- an alias that leads nowhere has an unknown target
abbrev pub OtherAliasesAreUnknown : Type 0
OtherAliasesAreUnknown = (w : World) (compilation : Compilation) → IsOfWorld w compilation → AreSingle w compilation → AreSaid w
    → (o : Overrides) (k : ℕ) (alias : Alias (List Name)) → KeepsAlias w compilation k alias → target_in compilation k alias.target ≡ Nothing
    → Broken w o (unknown_alias_target (lexeme alias.name.token) (path_names alias.target))

-- an alias of a module takes it as a recipe
abbrev pub ModuleAliasesAreRefused : Type 0
ModuleAliasesAreRefused = (w : World) (compilation : Compilation) → IsOfWorld w compilation → AreSingle w compilation → AreSaid w
    → (o : Overrides) (k : ℕ) (alias : Alias (List Name)) → KeepsAlias w compilation k alias → (inner : ℕ) → target_in compilation k alias.target ≡ Module inner
    → Broken w o (module_as_recipe (path_names alias.target))
