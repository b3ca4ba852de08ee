-- The recipes and aliases that modules keep, by their names, are those of each world that the compilation stands for.
use Rattle.std.specs.Prelude.{◌≡◌, ◌↔◌, List, Some}
use Rattle.modules_compilation.specs.declared.compilation.Compilation.{Compilation}
use Rattle.meaning_rules.specs.Worlds.Given.{Overrides, Text, World}
use Rattle.laws_modules.specs.Names.Names.{AreSetOnce, AreSingle, IsOfWorld}
use Rattle.meaning_evaluation.specs.Named.{RecipeName, RecipeRow}
use Rattle.just_meaning.specs.Defining.{IsAliasOf, IsDefaultOf, IsRecipeRow}
use Rattle.laws_runs.specs.Resolved.Definitions.{alias_named, default_at, recipe_named}

-- the compilation stands for the modules of the world, none of which has two definitions of a name or two settings of one
pub record IsWorldOf (w : World) (compilation : Compilation) : Type 0 where
  pub of : IsOfWorld w compilation
  pub single : AreSingle w compilation
  pub settings : AreSetOnce w compilation

-- a recipe has just the row that it has in the world
abbrev pub RecipesStand : Type 0
RecipesStand = (w : World) (compilation : Compilation) → IsWorldOf w compilation → (o : Overrides) (r : RecipeName) (row : RecipeRow) → (recipe_named compilation w.expansion r ≡ Some row) ↔ IsRecipeRow w o r row

-- an alias stands for just the recipe for which it stands in the world
abbrev pub AliasesStand : Type 0
AliasesStand = (w : World) (compilation : Compilation) → IsWorldOf w compilation → (o : Overrides) (r target : RecipeName) → (alias_named compilation r ≡ Some target) ↔ IsAliasOf w o r target

-- the recipe that runs in a module where none is named is that of the world
abbrev pub DefaultsStand : Type 0
DefaultsStand = (w : World) (compilation : Compilation) → IsWorldOf w compilation → (o : Overrides) (path : List Text) (r : RecipeName) → (default_at compilation path ≡ Some r) ↔ IsDefaultOf w o path r
