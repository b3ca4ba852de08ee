-- Words invoke the same recipes, whatever modules and recipes are called.
use Rattle.std.specs.Prelude.{◌≡◌, ◌↔◌, ℕ, List, map}
use Rattle.std.specs.Option.{option_map}
use Rattle.meaning_runs.specs.Words.{Words, WordMeaning, recipe, submodule}
use Rattle.meaning_runs.specs.Invokes.{WordRule, Invoke, BreaksWords}
use Rattle.laws_runs.specs.Words.Met.{IsNamed, IsReached, IsMet}

-- the same recipe or module, as it is called there
abbrev pub renamed : {Module Recipe Module' Recipe' : Type 0} → (Module → Module') → (Recipe → Recipe') → WordMeaning Module Recipe → WordMeaning Module' Recipe'
renamed f g (recipe r) = recipe (g r)
renamed f g (submodule inner) = submodule (f inner)

module _ {Module Recipe Module' Recipe' : Type 0} (w : Words Module Recipe) (w' : Words Module' Recipe') (f : Module → Module') (g : Recipe → Recipe') where
  -- The same list; the root, what names of the words mean, and defaults, as they are called there; and the same own name and parameters of each recipe that the words meet.
  pub record IsRenamed (words : List (List ℕ)) : Type 0 where
    pub root : w'.root ≡ f w.root
    pub lists : w'.lists ≡ w.lists
    pub names : (here : Module) (name : List ℕ) → IsReached w words here → IsNamed words name → w'.meaning (f here) name ≡ option_map (renamed f g) (w.meaning here name)
    pub defaults : (here : Module) → IsReached w words here → w'.default (f here) ≡ option_map g (w.default here)
    pub own : (r : Recipe) → IsMet w words r → w'.name (g r) ≡ w.name r
    pub slots : (r : Recipe) → IsMet w words r → w'.slots (g r) ≡ w.slots r

  -- the invocations, with their recipes as they are called there
  abbrev pub invocations_renamed : List (Recipe × List (List (List ℕ))) → List (Recipe' × List (List (List ℕ)))
  invocations_renamed invocations = map (λ i. (g i.0, i.1)) invocations

  -- what the words invoke there is what they invoke here under its name there, and they break the same rules
  pub record InvokeAlike (words : List (List ℕ)) : Type 0 where
    pub there : (invocations : List (Recipe × List (List (List ℕ)))) → Invoke w words invocations → Invoke w' words (invocations_renamed invocations)
    pub back : (named : List (Recipe' × List (List (List ℕ)))) → Invoke w' words named → (invocations : List (Recipe × List (List (List ℕ)))) × Invoke w words invocations × (named ≡ invocations_renamed invocations)
    pub rules : (rule : WordRule) → BreaksWords w words rule ↔ BreaksWords w' words rule

-- whatever modules and recipes are called, words invoke and break alike
abbrev pub RenamedAlike : Type 0 → Type 0 → Type 0 → Type 0 → Type 0
RenamedAlike Module Recipe Module' Recipe' = (w : Words Module Recipe) (w' : Words Module' Recipe') (f : Module → Module') (g : Recipe → Recipe') (words : List (List ℕ)) → IsRenamed w w' f g words → InvokeAlike w w' f g words
