-- Parameters that have a value of their own, as tests.
use Rattle.std.specs.Prelude.{Bool, false, Option, Some, None, is_some}
use Rattle.std.specs.List.{list_any}
use Rattle.tree_items.specs.declared.recipe.Parameter.{Parameter}
use Rattle.tree_items.specs.declared.recipe.Recipe.{Recipe}
use Rattle.tree_items.specs.declared.recipe.UnresolvedDependency.{UnresolvedDependency}
use Rattle.modules_compilation.specs.declared.compilation.Compilation.{Compilation}
use Rattle.modules_compilation.specs.declared.place.Place.{Place}
use Rattle.resolve_recipes.specs.Nodes.{recipe_at}
use Rattle.resolve_analysis.specs.declared.recipes.ResolvedRecipe.{ResolvedRecipe}

abbrev pub has_value : Parameter → Bool
has_value parameter = is_some parameter.value

abbrev pub value_of : Option (Recipe UnresolvedDependency) → Bool
value_of None = false
value_of (Some recipe) = list_any has_value recipe.parameters.items

-- a parameter of the recipe that stands at a place has a value of its own
abbrev pub value_at : Compilation → Place → Bool
value_at compilation place = value_of (recipe_at compilation place)

abbrev pub value_in : Compilation → ResolvedRecipe → Bool
value_in compilation resolved = value_at compilation resolved.place
