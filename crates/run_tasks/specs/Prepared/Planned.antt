-- Recipes with what they depend on.
use Rattle.std.specs.Prelude.{◌≡◌, false, List, [], ◌∷◌, Some}
use Rattle.modules_compilation.specs.Places.{is_recipe, item_at}
use Rattle.modules_compilation.specs.declared.compilation.Compilation.{Compilation}
use Rattle.tree_items.specs.declared.ast.Item.TheVariants.{Recipe}
use Rattle.resolve_analysis.specs.declared.recipes.ResolvedRecipe.{ResolvedRecipe}
use Rattle.analyze_calls.specs.declared.plan.Planned.{Planned}

-- the recipe at its place, in its module, with the places of what runs before it and after it
pub record IsPlanned (compilation : Compilation) (resolved : ResolvedRecipe) (planned : Planned) : Type 0 where
  pub recipe : item_at compilation resolved.place ≡ Some (Recipe planned.recipe.now)
  pub module_is : planned.module ≡ resolved.module
  pub priors : planned.priors.now ≡ resolved.priors.items
  pub subsequents : planned.subsequents.now ≡ resolved.subsequents.items

-- each of them in order, up to the first at whose place no recipe stands
pub data ArePlanned (compilation : Compilation) : List ResolvedRecipe → List Planned → Type 0 where
  none_left : ArePlanned compilation [] []
  nowhere : {resolved : ResolvedRecipe} {others : List ResolvedRecipe} → is_recipe (item_at compilation resolved.place) ≡ false → ArePlanned compilation (resolved ∷ others) []
  one_more : {resolved : ResolvedRecipe} {others : List ResolvedRecipe} {planned : Planned} {more : List Planned} → IsPlanned compilation resolved planned → ArePlanned compilation others more
      → ArePlanned compilation (resolved ∷ others) (planned ∷ more)
