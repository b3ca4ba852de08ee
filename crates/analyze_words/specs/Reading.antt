-- Words read recipe by recipe.
use Rattle.std.specs.Prelude.{◌≡◌, ℕ, List, [], ◌∷◌, ◌++◌, map}
use Rattle.analyze_words.specs.declared.parser.Invocation.{Invocation}
use Rattle.meaning_runs.specs.Words.{Words}
use Rattle.meaning_runs.specs.Invokes.{Invokes, Invoke}
use Rattle.analyze_words.specs.Worded.{row_of}

-- one invocation more, by the first recipe's words
pub record ReadsOne (w : Words ℕ ℕ) (words : List (List ℕ)) (old new : List Invocation) (rest : List (List ℕ)) : Type 0 where
  pub recipe : ℕ
  pub groups : List (List (List ℕ))
  pub grown : map row_of new ≡ map row_of old ++ (recipe, groups) ∷ []
  pub invokes : Invokes w words recipe groups rest

-- more invocations, by all words
pub record ReadsAll (w : Words ℕ ℕ) (words : List (List ℕ)) (old new : List Invocation) : Type 0 where
  pub rows : List (ℕ × List (List (List ℕ)))
  pub grown : map row_of new ≡ map row_of old ++ rows
  pub invokes : Invoke w words rows
