-- What things need, and cycles of needs. A thing is known by its place.
use Rattle.std.specs.Prelude.{◌≡◌, ◌<◌, ◌-◌, ℕ, List, [], ◌∷◌, Some, length, map, slice_get, Contains}
use Rattle.std.specs.Global.{Vec}

-- what each thing needs
abbrev pub rows : List (Vec ℕ) → List (List ℕ)
rows needs = map (λ row. row.items) needs

-- one thing needs another, and both are there
pub record Needs (needs : List (List ℕ)) (place need : ℕ) : Type 0 where
  pub row : List ℕ
  pub here : slice_get needs place ≡ Some row
  pub listed : Contains row need
  pub there : need < length needs

-- each needs the one after it
abbrev pub Walks : List (List ℕ) → List ℕ → Type 0
Walks needs [] = Unit {0}
Walks needs (a ∷ []) = Unit {0}
Walks needs (a ∷ b ∷ places) = Needs needs a b × Walks needs (b ∷ places)

-- a walk of two places or more that ends where it began
pub record IsCycle (needs : List (List ℕ)) (places : List ℕ) : Type 0 where
  pub long : 1 < length places
  pub closed : slice_get places 0 ≡ slice_get places (length places - 1)
  pub walk : Walks needs places
