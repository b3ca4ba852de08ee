-- Calls of reached recipes, and ranks of recipes.
use Rattle.std.specs.Prelude.{◌≡◌, ◌<◌, ◌++◌, ℕ, List, Bool, Some, Contains}
use Rattle.meaning_evaluation.specs.Named.{RecipeName, Call, DependencyRow, RecipeRow, Definitions}
use Rattle.just_meaning.specs.Opening.{IsReached}

-- a call of a recipe that is reached
abbrev pub IsReachedCall : Definitions → Bool → List RecipeName → Call → Type 0
IsReachedCall defined no_dependencies invoked call = IsReached defined no_dependencies invoked call.recipe

-- a rank of recipes that falls along what their rows name
pub record FallsAlong (defined : Definitions) (rank : RecipeName → ℕ) : Type 0 where
  pub falls : (r : RecipeName) (row : RecipeRow) (d : DependencyRow) → defined.recipe r ≡ Some row → Contains (row.priors ++ row.subsequents) d → rank d.on < rank r
