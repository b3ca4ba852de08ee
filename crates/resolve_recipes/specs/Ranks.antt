-- At which places of an order things stand.
use Rattle.std.specs.Prelude.{◌≡◌, ℕ, suc, if◌then◌else◌, nat_eq, nat_lt, List, [], ◌∷◌, Option, Some, None, length, slice_get}
use Rattle.std.specs.Option.{option_or, unwrap_or}

-- at which place of a list, of which the first element is at a place, this stands last
abbrev pub last_rank : ℕ → List ℕ → ℕ → Option ℕ
last_rank rank [] thing = None
last_rank rank (other ∷ others) thing = option_or (last_rank (suc rank) others thing) (if nat_eq other thing then Some rank else None)

-- each of the first things, as many as the order has, has its place in the order, or 0
abbrev pub AreRanks : List ℕ → List ℕ → Type 0
AreRanks order ranks = (thing : ℕ) → slice_get ranks thing ≡ (if nat_lt thing (length order) then Some (unwrap_or (last_rank 0 order thing) 0) else None)
