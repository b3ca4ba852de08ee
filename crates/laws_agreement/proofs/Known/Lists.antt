-- Elements of lists that are made of others, searches in lists, equal numbers, and what is there.
use Rattle.std.proofs.Common.{◌≡◌, ◌⊎◌, inl, inr, refl, sym, ap, subst, List, [], ◌∷◌, map, ℕ, zero, suc, Option, Some, None, arith}
use Rattle.std.specs.Prelude.{Contains}
use Rattle.meaning_rules.proofs.Worlds.Places.{contains_cases, contains_first, contains_later, contains_none}

-- what a list under a map contains comes of an element
pub contains_mapped : {A B : Type 0} (f : A → B) (xs : List A) (y : B) → Contains (map f xs) y → (x : A) × Contains xs x × (f x ≡ y)
contains_mapped f [] y c = absurd (contains_none [] y refl c)
contains_mapped f (x ∷ xs) y c = elim (contains_cases (f x) (map f xs) y c) [
  | inl same ↦ (x, contains_first x xs, same)
  | inr d ↦ let r = contains_mapped f xs y d in (r.0, contains_later x xs r.0 r.1, r.2)
]

-- an element that something holds of, or it holds of none
pub search : {X : Type 0} (P : X → Type 0) → ((x : X) → P x ⊎ (P x → ⊥)) → (xs : List X) → ((x : X) × Contains xs x × P x) ⊎ ((x : X) → Contains xs x → P x → ⊥)
search P d [] = inr (λ x c p. contains_none [] x refl c)
search P d (x ∷ xs) = elim (d x) [
  | inl p ↦ inl (x, contains_first x xs, p)
  | inr n ↦ elim (search P d xs) [
    | inl q ↦ inl (q.0, contains_later x xs q.0 q.1, q.2)
    | inr m ↦ inr (λ y c p. elim (contains_cases x xs y c) [
      | inl e ↦ n (subst P (sym e) p)
      | inr l ↦ m y l p
    ])
  ]
]

-- two numbers are the same, or not
pub same_or_not : (m n : ℕ) → (m ≡ n) ⊎ (m ≡ n → ⊥)
same_or_not zero zero = inl refl
same_or_not zero (suc n) = inr (λ e. omega (arith, e))
same_or_not (suc m) zero = inr (λ e. omega (arith, e))
same_or_not (suc m) (suc n) = elim (same_or_not m n) [
  | inl e ↦ inl (ap suc e)
  | inr other ↦ inr (λ e. other (omega (arith, e)))
]

-- what isn't absent is there
pub is_there : {X : Type 0} (o : Option X) → (o ≡ None → ⊥) → (x : X) × (o ≡ Some x)
is_there (Some x) present = (x, refl)
is_there None present = absurd (present refl)
