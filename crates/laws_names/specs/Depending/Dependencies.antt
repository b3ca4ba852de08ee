-- What dependencies and aliases lead to, and the rules that are broken where they lead to no recipe.
use Rattle.std.specs.Prelude.{◌≡◌, ℕ, List, Some, None, Ok, Err, length, slice_get, Contains, true}
use Rattle.just_text.specs.declared.name.Name.{Name}
use Rattle.tree_attributes.specs.Attributes.{AttributeShape}
use Rattle.tree_attributes.specs.Sets.Sets.{shapes_in}
use Rattle.tree_items.specs.Paths.{path_names}
use Rattle.tree_items.specs.Recipes.{RecipeShape, recipe_shape}
use Rattle.tree_items.specs.declared.item.Alias.{Alias}
use Rattle.tree_items.specs.declared.recipe.Recipe.{Recipe}
use Rattle.tree_items.specs.declared.recipe.UnresolvedDependency.{UnresolvedDependency}
use Rattle.modules_compilation.specs.declared.compilation.Compilation.{Compilation}
use Rattle.modules_compilation.specs.declared.compilation.Target.TheVariants.{Module as ModuleTarget}
use Rattle.modules_compilation.specs.declared.module_node.ModuleNode.{ModuleNode}
use Rattle.modules_compilation.specs.declared.place.Place.{Place}
use Rattle.just_text.specs.Tokens.{lexeme}
use Rattle.resolve_recipes.specs.Disabled.{first_refusal}
use Rattle.resolve_recipes.specs.Leading.{target_in}
use Rattle.resolve_recipes.specs.Nodes.{Kept, all_kept, recipe_at}
use Rattle.resolve_recipes.specs.Refusals.{Refusal}
use Rattle.resolve_recipes.specs.Resolving.{all_needs, named_in, place_of}
use Rattle.resolve_recipes.specs.declared.recipe_resolver.Named.TheVariants.{Module, Nothing}
use Rattle.resolve_recipes.specs.declared.recipe_resolver.RecipeResolver.{RecipeResolver}
use Rattle.meaning_rules.specs.Worlds.Given.{Overrides, Text, World}
use Rattle.meaning_rules.specs.Depending.{LeadsToRecipe, takes}
use Rattle.meaning_rules.specs.Rules.{Broken, dependency_argument_count, module_as_recipe, unknown_alias_target, unknown_dependency}
use Rattle.laws_modules.specs.Names.Names.{HasNode}
use Rattle.laws_modules.specs.Names.Targets.{KeepsAlias, LeadsToPlace}
use Rattle.laws_modules.specs.Names.Meant.{IsMeant}
use Rattle.laws_names.specs.Depending.Meant.{IsResolverFor, IsTold}

-- ---- what dependencies lead to

-- the dependency's path leads to the recipe that is kept at this place, which takes its values
pub record IsLed (w : World) (compilation : Compilation) (k : ℕ) (node : ModuleNode) (dependency : UnresolvedDependency) (place : ℕ) : Type 0 where
  pub kept : Kept
  pub here : slice_get (all_kept compilation) place ≡ Some kept
  pub leads : LeadsToPlace w compilation k node (path_names dependency.recipe) kept.0 kept.1
  pub attributes : leads.keeps.attributes ≡ shapes_in kept.2.attributes
  pub shape : leads.keeps.recipe ≡ recipe_shape kept.2
  pub taken : takes w leads.keeps.attributes leads.keeps.recipe (length dependency.arguments.items) ≡ true

-- a dependency that has a place leads to the recipe there
abbrev pub DependenciesAreLed : Type 0
DependenciesAreLed = (w : World) (compilation : Compilation) (resolver : RecipeResolver) → IsMeant w compilation → IsResolverFor compilation resolver
    → (k : ℕ) (node : ModuleNode) → HasNode w compilation k node → (dependency : UnresolvedDependency) (place : ℕ) → place_of compilation resolver k dependency ≡ Ok place → IsLed w compilation k node dependency place

-- the dependency has a place, at which the recipe stands to which its path leads in the world
pub record IsPlaced (w : World) (compilation : Compilation) (resolver : RecipeResolver) (k : ℕ) (node : ModuleNode) (dependency : UnresolvedDependency)
    (modules : List Text) (name : Text) (attributes : List AttributeShape) (r : RecipeShape) : Type 0 where
  pub place : ℕ
  pub is : place_of compilation resolver k dependency ≡ Ok place
  pub led : IsLed w compilation k node dependency place
  pub same_modules : led.leads.modules ≡ modules
  pub same_name : led.leads.name ≡ name
  pub same_attributes : led.leads.keeps.attributes ≡ attributes
  pub same_recipe : led.leads.keeps.recipe ≡ r

-- a dependency that leads in the world to a recipe that takes its values has a place
abbrev pub LedDependenciesArePlaced : Type 0
LedDependenciesArePlaced = (w : World) (compilation : Compilation) (resolver : RecipeResolver) → IsMeant w compilation → IsResolverFor compilation resolver
    → (k : ℕ) (node : ModuleNode) → HasNode w compilation k node → (dependency : UnresolvedDependency) (modules : List Text) (name : Text) (attributes : List AttributeShape) (r : RecipeShape)
    → LeadsToRecipe w node.source.now (path_names dependency.recipe) modules name attributes r → takes w attributes r (length dependency.arguments.items) ≡ true
    → IsPlaced w compilation resolver k node dependency modules name attributes r

-- ---- what is told

-- the refusal of a kept recipe's dependencies names a rule that is broken
abbrev pub KeptDependenciesAreTold : Type 0
KeptDependenciesAreTold = (w : World) (compilation : Compilation) (resolver : RecipeResolver) → IsMeant w compilation → IsResolverFor compilation resolver
    → (o : Overrides) (refusal : Refusal) → all_needs compilation resolver (all_kept compilation) ≡ Err refusal → IsTold w o refusal

-- a recipe that another system disables stands in the module at a place
pub record ListsDisabled (w : World) (compilation : Compilation) (k : ℕ) (recipe : Recipe UnresolvedDependency) : Type 0 where
  pub node : ModuleNode
  pub here : HasNode w compilation k node
  pub item : Place
  pub listed : Contains node.disabled.items item
  pub there : recipe_at compilation item ≡ Some recipe

-- these are the dependencies of a recipe before its body, or those after it
pub data AreOf (recipe : Recipe UnresolvedDependency) : List UnresolvedDependency → Type 0 where
  priors : AreOf recipe recipe.priors.items
  subsequents : AreOf recipe recipe.subsequents.items

-- so does the refusal of a disabled recipe's
abbrev pub DisabledDependenciesAreTold : Type 0
DisabledDependenciesAreTold = (w : World) (compilation : Compilation) (resolver : RecipeResolver) → IsMeant w compilation → IsResolverFor compilation resolver
    → (o : Overrides) (k : ℕ) (recipe : Recipe UnresolvedDependency) → ListsDisabled w compilation k recipe → (dependencies : List UnresolvedDependency) → AreOf recipe dependencies
    → (refusal : Refusal) → first_refusal compilation resolver k recipe.name dependencies ≡ Some refusal → IsTold w o refusal

-- an alias that names a module, or nothing, breaks the rule
pub record AreAliasesTold (w : World) (compilation : Compilation) (resolver : RecipeResolver) (o : Overrides) (k : ℕ) (alias : Alias (List Name)) : Type 0 where
  pub a_module : named_in compilation resolver.places.now k alias.target ≡ Module → Broken w o (module_as_recipe (path_names alias.target))
  pub nothing : named_in compilation resolver.places.now k alias.target ≡ Nothing → Broken w o (unknown_alias_target (lexeme alias.name.token) (path_names alias.target))

abbrev pub AliasesAreTold : Type 0
AliasesAreTold = (w : World) (compilation : Compilation) (resolver : RecipeResolver) → IsMeant w compilation → IsResolverFor compilation resolver
    → (o : Overrides) (k : ℕ) (alias : Alias (List Name)) → KeepsAlias w compilation k alias → AreAliasesTold w compilation resolver o k alias

-- no rule on dependencies is broken
pub record NoneIsBroken (w : World) (o : Overrides) : Type 0 where
  pub unknown : (name : Text) (path : List Text) → Broken w o (unknown_dependency name path) → ⊥
  pub counts : (name : Text) (path : List Text) (count : ℕ) → Broken w o (dependency_argument_count name path count) → ⊥
  pub modules : (path : List Text) → Broken w o (module_as_recipe path) → ⊥

-- where each dependency of a kept recipe has a place, none of a disabled one is refused, and no alias leads to a module, no rule on dependencies is broken
abbrev pub DependenciesAreClear : Type 0
DependenciesAreClear = (w : World) (compilation : Compilation) (resolver : RecipeResolver) → IsMeant w compilation → IsResolverFor compilation resolver
    → (needs : List (List ℕ)) → all_needs compilation resolver (all_kept compilation) ≡ Ok needs
    → ((k : ℕ) (recipe : Recipe UnresolvedDependency) → ListsDisabled w compilation k recipe → (dependencies : List UnresolvedDependency) → AreOf recipe dependencies → first_refusal compilation resolver k recipe.name dependencies ≡ None)
    → ((k : ℕ) (alias : Alias (List Name)) → KeepsAlias w compilation k alias → (inner : ℕ) → target_in compilation k alias.target ≡ ModuleTarget inner → ⊥)
    → (o : Overrides) → NoneIsBroken w o
