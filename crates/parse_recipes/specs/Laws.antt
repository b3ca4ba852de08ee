-- What reading recipes and deriving them have to do with each other.
use Rattle.std.specs.Prelude.{ℕ, ◌≡◌, List, map, Ok}
use Rattle.just_text.specs.Tokens.{Word, word_of}
use Rattle.tree_items.specs.Recipes.{RecipeShape}
use Rattle.parse_expressions.specs.Literals.{Expansion}
use Rattle.parse_expressions.specs.LineEnds.{IsEol}
use Rattle.parse_recipes.specs.Headers.{IsPath, IsRecipe}
use Rattle.parse_expressions.specs.LineEnds.{eol_at}
use Rattle.parse_recipes.specs.Reading.{path_at, recipe_at}

-- What is read is derived, and what is derived is read.
pub record RecipesExactly {T : Type 0} (word : T → Word) (expansion : Expansion) : Type 0 where
  pub found : (ts rest : List T) (r : RecipeShape) (blanks : ℕ) → recipe_at word expansion ts ≡ Ok ((r, blanks), rest) → IsRecipe expansion r blanks (map word ts) (map word rest)
  pub only : (ts : List T) (rest : List Word) (r : RecipeShape) (blanks : ℕ) → IsRecipe expansion r blanks (map word ts) rest → (behind : List T) × (recipe_at word expansion ts ≡ Ok ((r, blanks), behind)) × (map word behind ≡ rest)

-- The same of paths.
pub record PathsExactly {T : Type 0} (word : T → Word) : Type 0 where
  pub found : (ts rest : List T) (path : List (List ℕ)) → path_at word ts ≡ Ok (path, rest) → IsPath path (map word ts) (map word rest)
  pub only : (ts : List T) (rest : List Word) (path : List (List ℕ)) → IsPath path (map word ts) rest → (behind : List T) × (path_at word ts ≡ Ok (path, behind)) × (map word behind ≡ rest)

-- The same of the ends of lines.
pub record EolsExactly {T : Type 0} (word : T → Word) : Type 0 where
  pub found : (ts rest : List T) → eol_at word ts ≡ Ok rest → IsEol (map word ts) (map word rest)
  pub only : (ts : List T) (rest : List Word) → IsEol (map word ts) rest → (behind : List T) × (eol_at word ts ≡ Ok behind) × (map word behind ≡ rest)

-- This is so of tokens, and of words alone.
pub record RecipesHold (expansion : Expansion) : Type 0 where
  pub tokens : RecipesExactly word_of expansion
  pub words : RecipesExactly (λ (w : Word). w) expansion

pub record PathsHold : Type 0 where
  pub tokens : PathsExactly word_of
  pub words : PathsExactly (λ (w : Word). w)

pub record EolsHold : Type 0 where
  pub tokens : EolsExactly word_of
  pub words : EolsExactly (λ (w : Word). w)

-- Words derive at most one recipe, and it ends at one place.
abbrev pub AtMostOneRecipe : Type 0
AtMostOneRecipe = (expansion : Expansion) (words rest rest' : List Word) (r r' : RecipeShape) (blanks blanks' : ℕ)
    → IsRecipe expansion r blanks words rest → IsRecipe expansion r' blanks' words rest' → (r ≡ r') × (blanks ≡ blanks') × (rest ≡ rest')
