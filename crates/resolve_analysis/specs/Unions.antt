-- Sets of numbers that grow.
use Rattle.std.specs.Prelude.{◌≡◌, ◌⊎◌, ℕ, true, List, Option, Some, slice_get}
use Rattle.std.specs.BTreeSet.{BTreeSet, contains}
use Rattle.std.specs.Ordering.{nat_cmp}
use Rattle.resolve_order.specs.Flooded.{IsMarked}

abbrev pub Has : BTreeSet ℕ → ℕ → Type 0
Has numbers number = contains nat_cmp numbers number ≡ true

-- what is new is what is old, and what is added
pub record IsUnion (Old Added New : ℕ → Type 0) : Type 0 where
  pub kept : (number : ℕ) → Old number → New number
  pub added : (number : ℕ) → Added number → New number
  pub sound : (number : ℕ) → New number → Old number ⊎ Added number

-- one of these numbers stands at a place that is marked
pub record IsMarkedNumber (numbers : List ℕ) (marks : List (Option ℕ)) (number : ℕ) : Type 0 where
  pub place : ℕ
  pub here : slice_get numbers place ≡ Some number
  pub marked : IsMarked marks place
