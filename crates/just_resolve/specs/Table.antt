-- The recipes of all modules in their order, and what aliases stand for.
use Rattle.std.specs.Prelude.{◌≡◌, ℕ, List, [], ◌∷◌, Option, Some, None, Result, Ok, Err, length, map, slice_get}
use Rattle.std.specs.Global.{Vec}
use Rattle.std.specs.List.{range_with_len}
use Rattle.std.specs.Option.{option_and_then, option_or}
use Rattle.tree_items.specs.declared.recipe.Recipe.{Recipe}
use Rattle.tree_items.specs.declared.recipe.UnresolvedDependency.{UnresolvedDependency}
use Rattle.modules_compilation.specs.declared.compilation.Compilation.{Compilation}
use Rattle.modules_compilation.specs.declared.module_node.ModuleNode.{ModuleNode}
use Rattle.modules_compilation.specs.declared.place.Place.{Place}
use Rattle.resolve_order.specs.Order.{IsOrder}
use Rattle.resolve_order.specs.Needs.{IsCycle}
use Rattle.resolve_recipes.specs.Aliases as aliases
use Rattle.resolve_recipes.specs.Counts.{count_of}
use Rattle.resolve_recipes.specs.Disabled.{first_refusal}
use Rattle.resolve_recipes.specs.Nodes.{Kept, all_kept, recipe_at, view}
use Rattle.resolve_recipes.specs.Ranks.{AreRanks}
use Rattle.resolve_recipes.specs.Refusals.{Refusal}
use Rattle.resolve_recipes.specs.Resolving.{all_needs}
use Rattle.resolve_recipes.specs.Standing.{last_place, place_in}
use Rattle.resolve_recipes.specs.declared.aliases.ResolvedAlias.{ResolvedAlias}
use Rattle.resolve_recipes.specs.declared.item_places.ItemPlaces.{ItemPlaces}
use Rattle.resolve_recipes.specs.declared.recipe_node.RecipeNode.{RecipeNode}
use Rattle.resolve_recipes.specs.declared.recipe_resolver.RecipeResolver.{RecipeResolver}
use Rattle.resolve_references.specs.declared.read_fault.ReadFault.{ReadFault}
use Rattle.resolve_analysis.specs.declared.module_reads.ModuleReads.{ModuleReads}
use Rattle.resolve_analysis.specs.declared.recipes.RecipeTable.{RecipeTable}
use Rattle.just_resolve.specs.Cycles.{IsCircularRecipe}
use Rattle.just_resolve.specs.Faults.{naming_error, reading_error}
use Rattle.just_resolve.specs.Gathered.{gathered}
use Rattle.just_resolve.specs.Recipes.{Resolved, resolved_in, seen}
use Rattle.just_resolve.specs.declared.error.Error.{Error}

-- ---- dependencies of disabled recipes

-- the first that there is
abbrev pub first_of : {X Y : Type 0} → (X → Option Y) → List X → Option Y
first_of of [] = None
first_of of (x ∷ xs) = option_or (of x) (first_of of xs)

abbrev pub disabled_of : Option ModuleNode → List Place
disabled_of (Some node) = node.disabled.items
disabled_of None = []

module _ (compilation : Compilation) (resolver : RecipeResolver) where
  -- the refusal of the first of a recipe's dependencies that names no recipe, if there is one
  abbrev pub recipe_refusal : ℕ → Recipe UnresolvedDependency → Option Refusal
  recipe_refusal home recipe = option_or (first_refusal compilation resolver home recipe.name recipe.priors.items) (first_refusal compilation resolver home recipe.name recipe.subsequents.items)

  abbrev pub refusal_at : ℕ → Place → Option Refusal
  refusal_at home place = option_and_then (recipe_refusal home) (recipe_at compilation place)

  -- that of the first of the module's disabled recipes
  abbrev pub module_refusal : ℕ → Option Refusal
  module_refusal home = first_of (refusal_at home) (disabled_of (slice_get compilation.modules.items home))

  -- that of the first of the modules
  abbrev pub disabled_refusal : Option Refusal
  disabled_refusal = first_of module_refusal (range_with_len 0 (length compilation.modules.items))

-- ---- aliases

abbrev pub aliases_of : Option ModuleNode → List Place
aliases_of (Some node) = node.aliases.items
aliases_of None = []

module _ (compilation : Compilation) (places : ItemPlaces) (ranks : List ℕ) where
  -- the aliases of the module at a place, or the refusal of the first that stands for no recipe
  abbrev pub module_aliases : ℕ → Result (List ResolvedAlias) Refusal
  module_aliases home = aliases.resolved_at compilation places ranks home (aliases_of (slice_get compilation.modules.items home))

  -- those of each module
  abbrev pub all_aliases : Result (List (List ResolvedAlias)) Refusal
  all_aliases = gathered module_aliases (range_with_len 0 (length compilation.modules.items))

-- ---- the table

-- what each row has
abbrev pub lists_in : {X : Type 0} → List (Vec X) → List (List X)
lists_in rows = map (λ row. row.items) rows

-- each item has the place of the recipe that stands there, the last if there are several
abbrev pub ArePlaces : List Place → ItemPlaces → Type 0
ArePlaces standing places = (item : Place) → place_in places item ≡ last_place 0 standing item

module _ (compilation : Compilation) (resolver : RecipeResolver) where
  -- these recipes, where they stand, and the aliases of each module
  pub record IsTableOf (ranks : List ℕ) (recipes : List Resolved) (table : RecipeTable) : Type 0 where
    pub recipes_are : map seen table.recipes.items ≡ recipes
    pub places_are : ArePlaces (map (λ recipe. recipe.place) table.recipes.items) table.places
    pub aliases_are : all_aliases compilation resolver.places.now ranks ≡ Ok (lists_in table.aliases.items)

  -- an alias stands for no recipe
  pub record IsAliasRefused (ranks : List ℕ) (error : Error) : Type 0 where
    pub refusal : Refusal
    pub refused : all_aliases compilation resolver.places.now ranks ≡ Err refusal
    pub tells : error ≡ naming_error refusal

  module _ (recipes : List Kept) (reads : List ModuleReads) (needs : List (List ℕ)) where
    -- the recipes in this order
    pub record IsTableIn (order : List ℕ) (table : RecipeTable) : Type 0 where
      pub ranks : List ℕ
      pub ranked : AreRanks order ranks
      pub all : List Resolved
      pub resolved : resolved_in recipes reads needs ranks order ≡ Ok all
      pub is_of : IsTableOf ranks all table

    pub data IsRefusedIn (order : List ℕ) (error : Error) : Type 0 where
      reading : (ranks : List ℕ) (fault : ReadFault) → AreRanks order ranks → resolved_in recipes reads needs ranks order ≡ Err fault → error ≡ reading_error fault → IsRefusedIn order error
      alias : (ranks : List ℕ) → AreRanks order ranks → IsAliasRefused ranks error → IsRefusedIn order error

  module _ (nodes : List RecipeNode) (reads : List ModuleReads) where
    -- the recipes, each after those that it depends on, where no dependency is refused
    pub record IsSorted (table : RecipeTable) : Type 0 where
      pub enabled : disabled_refusal compilation resolver ≡ None
      pub needs : List (List ℕ)
      pub needed : all_needs compilation resolver (map view nodes) ≡ Ok needs
      pub order : List ℕ
      pub ordered : IsOrder needs order
      pub acyclic : (places : List ℕ) → IsCycle needs places → ⊥
      pub is_in : IsTableIn (map view nodes) reads needs order table

    pub data IsNotSorted (error : Error) : Type 0 where
      disabled : (refusal : Refusal) → disabled_refusal compilation resolver ≡ Some refusal → error ≡ naming_error refusal → IsNotSorted error
      dependency : (refusal : Refusal) → all_needs compilation resolver (map view nodes) ≡ Err refusal → error ≡ naming_error refusal → IsNotSorted error
      circular : (needs : List (List ℕ)) → all_needs compilation resolver (map view nodes) ≡ Ok needs → IsCircularRecipe nodes needs error → IsNotSorted error
      others : (needs : List (List ℕ)) (order : List ℕ) → all_needs compilation resolver (map view nodes) ≡ Ok needs → IsOrder needs order → IsRefusedIn (map view nodes) reads needs order error → IsNotSorted error

-- how many values each recipe takes, and the place of each by where it stands
pub record IsResolver (nodes : List RecipeNode) (resolver : RecipeResolver) : Type 0 where
  pub counts : resolver.counts.now ≡ map (λ (node : RecipeNode). count_of node.recipe.now.parameters.items) nodes
  pub places : ArePlaces (map (λ (node : RecipeNode). node.place) nodes) resolver.places.now

module _ (compilation : Compilation) (reads : List ModuleReads) where
  pub record IsTableFor (nodes : List RecipeNode) (table : RecipeTable) : Type 0 where
    pub resolver : RecipeResolver
    pub resolves : IsResolver nodes resolver
    pub sorted : IsSorted compilation resolver nodes reads table

  pub record IsRefusedFor (nodes : List RecipeNode) (error : Error) : Type 0 where
    pub resolver : RecipeResolver
    pub resolves : IsResolver nodes resolver
    pub refused : IsNotSorted compilation resolver nodes reads error

  -- the recipes that the modules keep
  pub record IsTable (table : RecipeTable) : Type 0 where
    pub nodes : List RecipeNode
    pub kept : map view nodes ≡ all_kept compilation
    pub is_for : IsTableFor nodes table

  pub record IsTableRefused (error : Error) : Type 0 where
    pub nodes : List RecipeNode
    pub kept : map view nodes ≡ all_kept compilation
    pub refused : IsRefusedFor nodes error
