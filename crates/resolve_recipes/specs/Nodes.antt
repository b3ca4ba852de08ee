-- The recipes that modules keep.
use Rattle.std.specs.Prelude.{ℕ, suc, List, [], ◌∷◌, ◌++◌, Option, Some, None}
use Rattle.std.specs.List.{filter_map}
use Rattle.std.specs.Option.{option_map}
use Rattle.tree_items.specs.declared.ast.Item.{Item}
use Rattle.tree_items.specs.declared.ast.Item.TheVariants.{Recipe as recipe_item}
use Rattle.tree_items.specs.declared.recipe.Recipe.{Recipe}
use Rattle.tree_items.specs.declared.recipe.UnresolvedDependency.{UnresolvedDependency}
use Rattle.modules_compilation.specs.Places.{item_at}
use Rattle.modules_compilation.specs.declared.compilation.Compilation.{Compilation}
use Rattle.modules_compilation.specs.declared.module_node.ModuleNode.{ModuleNode}
use Rattle.modules_compilation.specs.declared.place.Place.{Place}
use Rattle.resolve_recipes.specs.declared.recipe_node.RecipeNode.{RecipeNode}

abbrev pub recipe_of : Option Item → Option (Recipe UnresolvedDependency)
recipe_of (Some (recipe_item recipe)) = Some recipe
recipe_of _ = None

-- the recipe that stands at a place, if there is one
abbrev pub recipe_at : Compilation → Place → Option (Recipe UnresolvedDependency)
recipe_at compilation place = recipe_of (item_at compilation place)

-- a recipe, the module that keeps it, and where it stands
abbrev pub Kept : Type 0
Kept = ℕ × Place × Recipe UnresolvedDependency

abbrev pub view : RecipeNode → Kept
view node = (node.module, node.place, node.recipe.now)

abbrev pub kept_at : Compilation → ℕ → Place → Option Kept
kept_at compilation place item = option_map (λ recipe. (place, item, recipe)) (recipe_at compilation item)

-- those of the module at a place, as they stand in its list
abbrev pub kept_by : Compilation → ℕ → ModuleNode → List Kept
kept_by compilation place node = filter_map (kept_at compilation place) node.recipes.items

-- those of these modules, of which the first is at a place, module by module
abbrev pub kept_from : Compilation → ℕ → List ModuleNode → List Kept
kept_from compilation place [] = []
kept_from compilation place (node ∷ nodes) = kept_by compilation place node ++ kept_from compilation (suc place) nodes

-- those of all modules
abbrev pub all_kept : Compilation → List Kept
all_kept compilation = kept_from compilation 0 compilation.modules.items
