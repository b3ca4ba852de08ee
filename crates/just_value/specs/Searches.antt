-- Searches by halves among ascending keys: where a key stands, and what bounds the comparisons.
use Rattle.std.specs.Prelude.{◌≡◌, ℕ, zero, suc, ◌/◌, ◌≤◌, List, length, MatchResult, Some, slice_get, Result}
use Rattle.std.specs.List.Sorted.{IsPartitionPoint}
use Rattle.std.specs.declared.cmp.Ordering.{Ordering}
use Rattle.std.specs.declared.cmp.Ordering.TheVariants.{Less}

-- how many binary digits a number has, at most so many
abbrev pub digits_within : ℕ → ℕ → ℕ
digits_within zero n = 0
digits_within (suc most) zero = 0
digits_within (suc most) (suc n) = suc (digits_within most (suc n / 2))

-- how many binary digits a number has, none for zero
abbrev pub digits : ℕ → ℕ
digits n = digits_within n n

-- the place at which the key stands, or else the place between the lesser keys and the greater ones
abbrev pub IsPlace : {K : Type 0} → (K → K → Ordering) → List K → K → Result ℕ ℕ → Type 0
IsPlace cmp keys key place = MatchResult place
    (λ i. slice_get keys i ≡ Some key)
    (λ i. (i ≤ length keys) × IsPartitionPoint (λ k. cmp k key ≡ Less) (λ k. cmp key k ≡ Less) keys i)
