-- What lists contain that are made of others.
use Rattle.std.proofs.Common.{◌≡◌, ◌⊎◌, inl, inr, sym, ◌∙◌, ap, subst, Bool, true, false, cond, ◌||◌, ◌∷◌, [], ℕ, zero, suc, List, Some, refl, map}
use Rattle.std.specs.Prelude.{Contains, slice_get}
use Rattle.std.proofs.lemmas.Option.{none-some, same_Some}
use Rattle.std.specs.List.{filter, flat_map, list_any}
use Rattle.std.proofs.lemmas.Bool.{false≢true}
use Rattle.std.proofs.lemmas.List.Elements.{Contains-append_left, Contains-append_right, Contains-append_cases}
use Rattle.meaning_rules.proofs.Worlds.Places.{contains_at, place_of, contains_cases, contains_first, contains_later, contains_none}

module _ {X Y : Type 0} (f : X → Y) where
  pub mapped : (xs : List X) (x : X) → Contains xs x → Contains (map f xs) (f x)
  mapped [] x c = absurd (contains_none [] x refl c)
  mapped (z ∷ zs) x c = elim (contains_cases z zs x c) [
    | inl e ↦ subst (λ y. Contains (map f (z ∷ zs)) (f y)) e (contains_first (f z) (map f zs))
    | inr d ↦ contains_later (f z) (map f zs) (f x) (mapped zs x d)
  ]

  mapped_at : (xs : List X) (i : ℕ) (y : Y) → slice_get (map f xs) i ≡ Some y → (x : X) × (slice_get xs i ≡ Some x) × (f x ≡ y)
  mapped_at [] i y e = absurd (none-some y e)
  mapped_at (x ∷ xs) zero y e = (x, refl, same_Some (f x) y e)
  mapped_at (x ∷ xs) (suc i) y e = mapped_at xs i y e

  pub mapped_from : (xs : List X) (y : Y) → Contains (map f xs) y → (x : X) × Contains xs x × (f x ≡ y)
  mapped_from xs y c =
      let p = place_of (map f xs) y c in
      let m = mapped_at xs p.0 y p.1 in
      (m.0, contains_at xs p.0 m.0 m.1, m.2)

-- ---- what passes a test

module _ {X : Type 0} where
  if_put : (b : Bool) (y x : X) (rest : List X) → (y ≡ x) × (b ≡ true) → Contains (cond b (y ∷ rest) rest) x
  if_put b y x rest (e, is) = subst (λ a. Contains (cond a (y ∷ rest) rest) x) (sym is) (subst (λ z. Contains (y ∷ rest) z) e (contains_first y rest))

  if_there : (b : Bool) (y x : X) (rest : List X) → Contains rest x → Contains (cond b (y ∷ rest) rest) x
  if_there true y x rest c = contains_later y rest x c
  if_there false y x rest c = c

  if_cases : (b : Bool) (y x : X) (rest : List X) → Contains (cond b (y ∷ rest) rest) x → (y ≡ x) ⊎ Contains rest x
  if_cases true y x rest c = contains_cases y rest x c
  if_cases false y x rest c = inr c

module _ {X : Type 0} (p : X → Bool) where
  pub passed : (xs : List X) (x : X) → Contains xs x → p x ≡ true → Contains (filter p xs) x
  passed [] x c is = absurd (contains_none [] x refl c)
  passed (y ∷ ys) x c is = elim (contains_cases y ys x c) [
    | inl e ↦ if_put (p y) y x (filter p ys) (e, ap p e ∙ is)
    | inr d ↦ if_there (p y) y x (filter p ys) (passed ys x d is)
  ]

  pub passed_from : (xs : List X) (x : X) → Contains (filter p xs) x → Contains xs x
  passed_from [] x c = c
  passed_from (y ∷ ys) x c = elim (if_cases (p y) y x (filter p ys) c) [
    | inl e ↦ subst (λ z. Contains (y ∷ ys) z) e (contains_first y ys)
    | inr d ↦ contains_later y ys x (passed_from ys x d)
  ]

  pub any_at : (xs : List X) (x : X) → Contains xs x → p x ≡ true → list_any p xs ≡ true
  any_at [] x c is = absurd (contains_none [] x refl c)
  any_at (y ∷ ys) x c is = elim (contains_cases y ys x c) [
    | inl e ↦ ap (λ b. b || list_any p ys) (ap p e ∙ is)
    | inr d ↦ ap (λ b. p y || b) (any_at ys x d is) ∙ or_true (p y)
  ]
    where
      or_true : (b : Bool) → (b || true) ≡ true
      or_true true = refl
      or_true false = refl

  pub any_of : (xs : List X) → list_any p xs ≡ true → (x : X) × Contains xs x × (p x ≡ true)
  any_of [] is = absurd (false≢true is)
  any_of (y ∷ ys) is = by_test (p y) refl is (λ more. any_of ys more)
    where
      by_test : (b : Bool) → p y ≡ b → (b || list_any p ys) ≡ true → (list_any p ys ≡ true → (x : X) × Contains ys x × (p x ≡ true)) → (x : X) × Contains (y ∷ ys) x × (p x ≡ true)
      by_test true e any rest = (y, contains_first y ys, e)
      by_test false e any rest = let r = rest any in (r.0, contains_later y ys r.0 r.1, r.2)

-- ---- what is gathered

module _ {X Y : Type 0} (f : X → List Y) where
  pub gathered : (xs : List X) (x : X) (y : Y) → Contains xs x → Contains (f x) y → Contains (flat_map f xs) y
  gathered [] x y c d = absurd (contains_none [] x refl c)
  gathered (z ∷ zs) x y c d = elim (contains_cases z zs x c) [
    | inl e ↦ Contains-append_left (f z) (flat_map f zs) y (subst (λ a. Contains (f a) y) (sym e) d)
    | inr r ↦ Contains-append_right (f z) (flat_map f zs) y (gathered zs x y r d)
  ]

  pub gathered_from : (xs : List X) (y : Y) → Contains (flat_map f xs) y → (x : X) × Contains xs x × Contains (f x) y
  gathered_from [] y c = absurd (contains_none [] y refl c)
  gathered_from (z ∷ zs) y c = elim (Contains-append_cases (f z) (flat_map f zs) y c) [
    | inl d ↦ (z, contains_first z zs, d)
    | inr d ↦ let r = gathered_from zs y d in (r.0, contains_later z zs r.0 r.1, r.2)
  ]
