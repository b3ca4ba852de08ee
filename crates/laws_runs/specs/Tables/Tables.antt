-- Recipes that are kept, each after what it depends on.
use Rattle.std.specs.Prelude.{◌≡◌, ◌<◌, ◌≤◌, ◌++◌, ℕ, List, Some, length, slice_get, Contains}
use Rattle.modules_compilation.specs.declared.compilation.Compilation.{Compilation}
use Rattle.resolve_recipes.specs.Nodes.{Kept, all_kept}
use Rattle.resolve_analysis.specs.declared.module_reads.ModuleReads.{ModuleReads}
use Rattle.resolve_analysis.specs.declared.recipes.RecipeTable.{RecipeTable}
use Rattle.resolve_analysis.specs.declared.recipes.ResolvedRecipe.{ResolvedRecipe}
use Rattle.just_resolve.specs.Table.{IsTable}

-- where each module has its reads, whatever a recipe of the table depends on, before its body or after it, stands at a lower place
abbrev pub DependenciesStandBefore : Type 0
DependenciesStandBefore = (compilation : Compilation) (reads : List ModuleReads) (table : RecipeTable) → length compilation.modules.items ≤ length reads → IsTable compilation reads table
    → (place needed : ℕ) (recipe : ResolvedRecipe) → slice_get table.recipes.items place ≡ Some recipe → Contains (recipe.priors.items ++ recipe.subsequents.items) needed → needed < place

-- the recipe stands in the table, with its name, the module that keeps it, and where it stands in the files
pub record Stands (table : RecipeTable) (kept : Kept) : Type 0 where
  pub place : ℕ
  pub recipe : ResolvedRecipe
  pub here : slice_get table.recipes.items place ≡ Some recipe
  pub named : recipe.name ≡ kept.2.name
  pub home : recipe.module ≡ kept.0
  pub standing : recipe.place ≡ kept.1

-- where each module has its reads, each recipe that a module keeps stands in the table
abbrev pub KeptRecipesStand : Type 0
KeptRecipesStand = (compilation : Compilation) (reads : List ModuleReads) (table : RecipeTable) → length compilation.modules.items ≤ length reads → IsTable compilation reads table
    → (kept : Kept) → Contains (all_kept compilation) kept → Stands table kept
