-- The recipes that paths name, and the places of those that recipes depend on.
use Rattle.std.specs.Prelude.{ℕ, Bool, true, false, List, [], ◌∷◌, ◌++◌, length, Option, Some, None, Result, Ok, Err, slice_get}
use Rattle.just_text.specs.declared.name.Name.{Name}
use Rattle.tree_items.specs.declared.recipe.UnresolvedDependency.{UnresolvedDependency}
use Rattle.modules_compilation.specs.declared.compilation.Compilation.{Compilation}
use Rattle.modules_compilation.specs.declared.compilation.Target.{Target}
use Rattle.modules_compilation.specs.declared.compilation.Target.TheVariants.{Recipe as RecipeTarget, Module as ModuleTarget, Nothing as NoTarget}
use Rattle.resolve_recipes.specs.Leading.{target_in}
use Rattle.resolve_recipes.specs.Counts.{are_taken}
use Rattle.resolve_recipes.specs.Nodes.{Kept}
use Rattle.resolve_recipes.specs.Refusals.{Refusal, refused}
use Rattle.resolve_recipes.specs.Standing.{place_in}
use Rattle.resolve_recipes.specs.declared.item_places.ItemPlaces.{ItemPlaces}
use Rattle.resolve_recipes.specs.declared.recipe_node.ValueCount.{ValueCount}
use Rattle.resolve_recipes.specs.declared.recipe_resolver.Named.{Named}
use Rattle.resolve_recipes.specs.declared.recipe_resolver.Named.TheVariants.{Recipe, Module, Nothing}
use Rattle.resolve_recipes.specs.declared.recipe_resolver.Reason.{Reason}
use Rattle.resolve_recipes.specs.declared.recipe_resolver.Reason.TheVariants.{ArgumentCount, ModuleAsRecipe, Unknown}
use Rattle.resolve_recipes.specs.declared.recipe_resolver.RecipeResolver.{RecipeResolver}

-- the recipe at a place that it may have
abbrev pub recipe_or_nothing : Option ℕ → Named
recipe_or_nothing (Some place) = Recipe place
recipe_or_nothing None = Nothing

abbrev pub named_by : ItemPlaces → Target → Named
named_by places (RecipeTarget keeper item) = recipe_or_nothing (place_in places item)
named_by places (ModuleTarget inner) = Module
named_by places NoTarget = Nothing

-- what a path names from the module at a place on, recipes by the places that they have
abbrev pub named_in : Compilation → ItemPlaces → ℕ → List Name → Named
named_in compilation places place path = named_by places (target_in compilation place path)

abbrev pub take_so_many : Option ValueCount → ℕ → Bool
take_so_many None count = false
take_so_many (Some taken) count = are_taken taken count

-- the recipe at a place takes so many values
abbrev pub takes_at : List ValueCount → ℕ → ℕ → Bool
takes_at counts place count = take_so_many (slice_get counts place) count

abbrev pub if_taken : Bool → ℕ → ℕ → Result ℕ Reason
if_taken true place count = Ok place
if_taken false place count = Err (ArgumentCount count)

-- the place of what is named, if it is a recipe that takes so many values
abbrev pub place_of_named : List ValueCount → ℕ → Named → Result ℕ Reason
place_of_named counts count (Recipe place) = if_taken (takes_at counts place count) place count
place_of_named counts count Module = Err ModuleAsRecipe
place_of_named counts count Nothing = Err Unknown

-- places before others, unless those are refused
abbrev pub places_before : {A : Type 0} → List A → Result (List A) Refusal → Result (List A) Refusal
places_before places (Ok others) = Ok (places ++ others)
places_before places (Err refusal) = Err refusal

abbrev pub place_before : Result ℕ Reason → Name → List Name → Result (List ℕ) Refusal → Result (List ℕ) Refusal
place_before (Ok place) recipe path others = places_before (place ∷ []) others
place_before (Err reason) recipe path others = Err (refused reason recipe path)

module _ (compilation : Compilation) (resolver : RecipeResolver) where
  -- the place of the recipe that a dependency of the module at a place names, if that takes its values, or why it has none
  abbrev pub place_of : ℕ → UnresolvedDependency → Result ℕ Reason
  place_of place dependency = place_of_named resolver.counts.now (length dependency.arguments.items) (named_in compilation resolver.places.now place dependency.recipe)

  -- the places of a recipe's dependencies in order, or the refusal of the first that has none
  abbrev pub needs_of : ℕ → Name → List UnresolvedDependency → Result (List ℕ) Refusal
  needs_of place recipe [] = Ok []
  needs_of place recipe (dependency ∷ dependencies) = place_before (place_of place dependency) recipe dependency.recipe (needs_of place recipe dependencies)

  -- those of a recipe that is kept: of its priors, then of its subsequents
  abbrev pub recipe_needs : Kept → Result (List ℕ) Refusal
  recipe_needs kept = needs_of kept.0 kept.2.name (kept.2.priors.items ++ kept.2.subsequents.items)

  abbrev pub row_before : Result (List ℕ) Refusal → Result (List (List ℕ)) Refusal → Result (List (List ℕ)) Refusal
  row_before (Ok row) others = places_before (row ∷ []) others
  row_before (Err refusal) others = Err refusal

  -- a row for each recipe, or the refusal of the first that has none
  abbrev pub all_needs : List Kept → Result (List (List ℕ)) Refusal
  all_needs [] = Ok []
  all_needs (kept ∷ others) = row_before (recipe_needs kept) (all_needs others)
