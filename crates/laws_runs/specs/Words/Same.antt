-- Words invoke the same where their names mean the same.
use Rattle.std.specs.Prelude.{◌≡◌, ◌↔◌, ℕ, List}
use Rattle.meaning_runs.specs.Words.{Words}
use Rattle.meaning_runs.specs.Invokes.{WordRule, Invoke, BreaksWords}
use Rattle.laws_runs.specs.Words.Met.{IsNamed, IsReached, IsMet}

-- the same root, list and defaults, the same meaning of each name that the words have, and the same own name and parameters of each recipe that they meet
pub record IsSame {Module Recipe : Type 0} (w w' : Words Module Recipe) (words : List (List ℕ)) : Type 0 where
  pub root : w'.root ≡ w.root
  pub lists : w'.lists ≡ w.lists
  pub names : (here : Module) (name : List ℕ) → IsReached w words here → IsNamed words name → w'.meaning here name ≡ w.meaning here name
  pub defaults : (here : Module) → IsReached w words here → w'.default here ≡ w.default here
  pub own : (r : Recipe) → IsMet w words r → w'.name r ≡ w.name r
  pub slots : (r : Recipe) → IsMet w words r → w'.slots r ≡ w.slots r

-- then the words invoke the same and break the same rules
abbrev pub NamesAloneCount : Type 0 → Type 0 → Type 0
NamesAloneCount Module Recipe = (w w' : Words Module Recipe) (words : List (List ℕ)) → IsSame w w' words
    → ((invocations : List (Recipe × List (List (List ℕ)))) → Invoke w words invocations ↔ Invoke w' words invocations) × ((rule : WordRule) → BreaksWords w words rule ↔ BreaksWords w' words rule)
