-- What words meet on their way: names, modules and recipes.
use Rattle.std.specs.Prelude.{◌≡◌, ℕ, List, Some, Contains}
use Rattle.modules_compilation.specs.Modulepaths.{pieces}
use Rattle.meaning_runs.specs.Words.{Words, recipe, submodule}

-- one of the words has the name among its pieces
abbrev pub IsNamed : List (List ℕ) → List ℕ → Type 0
IsNamed words name = (word : List ℕ) × Contains words word × Contains (pieces word) name

module _ {Module Recipe : Type 0} (w : Words Module Recipe) (words : List (List ℕ)) where
  -- the root, and each module that a name of the words means in a module that is reached
  pub data IsReached : Module → Type 0 where
    at_root : IsReached w.root
    inside : {here inner : Module} {name : List ℕ} → IsReached here → IsNamed words name → w.meaning here name ≡ Some (submodule inner) → IsReached inner

  -- each recipe that a name of the words means in a module that is reached, and the default of such a module
  pub data IsMet : Recipe → Type 0 where
    by_name : {here : Module} {r : Recipe} {name : List ℕ} → IsReached here → IsNamed words name → w.meaning here name ≡ Some (recipe r) → IsMet r
    by_default : {here : Module} {r : Recipe} → IsReached here → w.default here ≡ Some r → IsMet r
