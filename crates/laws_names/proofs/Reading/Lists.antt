-- Elements of lists that are made of others, and lists in order.
use Rattle.std.proofs.Common.{◌≡◌, inl, inr, refl, sym, ◌∙◌, ap, subst, List, [], ◌∷◌, ◌++◌, map, Option, Some, ℕ, zero, suc, length, ◌+◌, Ordering, Less, arith}
use Rattle.std.specs.Prelude.{slice_get, Contains}
use Rattle.std.specs.List.{AllByRecursion, cons_option, filter_map, flat_map}
use Rattle.std.specs.List.Sorted.{IsStrictlySortedBy}
use Rattle.std.proofs.lemmas.List.Elements.{Contains-append_left, Contains-append_right, Contains-append_cases}
use Rattle.std.proofs.lemmas.Map.Keys.{sorted_head, sorted_tail}
use Rattle.std.proofs.lemmas.Option.{none-some, same_Some}
use Rattle.meaning_rules.proofs.Worlds.Places.{contains_at, contains_cases, contains_first, contains_later, contains_none, place_of}
use Rattle.laws_modules.proofs.Names.Found.{mapped, mapped_at}

pub contains_map : {A B : Type 0} (f : A → B) (xs : List A) (x : A) → Contains xs x → Contains (map f xs) (f x)
contains_map f xs x c = let p = place_of xs x c in contains_at (map f xs) p.0 (f x) (mapped f xs p.0 x p.1)

pub contains_mapped : {A B : Type 0} (f : A → B) (xs : List A) (y : B) → Contains (map f xs) y → (x : A) × Contains xs x × (f x ≡ y)
contains_mapped f xs y c =
    let p = place_of (map f xs) y c in
    let m = mapped_at f xs p.0 y p.1 in
    (m.0, contains_at xs p.0 m.0 m.1, m.2)

module _ {X Y : Type 0} (f : X → List Y) where
  pub contains_flat : (xs : List X) (x : X) (y : Y) → Contains xs x → Contains (f x) y → Contains (flat_map f xs) y
  contains_flat [] x y c d = absurd (contains_none [] x refl c)
  contains_flat (z ∷ xs) x y c d = elim (contains_cases z xs x c) [
    | inl same ↦ Contains-append_left (f z) (flat_map f xs) y (subst (λ v. Contains (f v) y) (sym same) d)
    | inr later ↦ Contains-append_right (f z) (flat_map f xs) y (contains_flat xs x y later d)
  ]

  pub contained_flat : (xs : List X) (y : Y) → Contains (flat_map f xs) y → (x : X) × Contains xs x × Contains (f x) y
  contained_flat [] y c = absurd (contains_none [] y refl c)
  contained_flat (z ∷ xs) y c = elim (Contains-append_cases (f z) (flat_map f xs) y c) [
    | inl d ↦ (z, contains_first z xs, d)
    | inr d ↦ let r = contained_flat xs y d in (r.0, contains_later z xs r.0 r.1, r.2)
  ]

-- ---- what is kept of a list of which each element gives something

module _ {X Y : Type 0} (f : X → Option Y) where
  abbrev pub GivesAll : List X → Type 0
  GivesAll xs = (k : ℕ) (x : X) → slice_get xs k ≡ Some x → (y : Y) × (f x ≡ Some y)

  abbrev Gives : List X → ℕ → Y → Type 0
  Gives xs k y = (x : X) × (slice_get xs k ≡ Some x) × (f x ≡ Some y)

  pub given_from : (xs : List X) → GivesAll xs → (k : ℕ) (y : Y) → slice_get (filter_map f xs) k ≡ Some y → Gives xs k y
  given_from [] all k y e = absurd (none-some y e)
  given_from (x ∷ xs) all k y e =
      let g = all 0 x refl in
      by_place g.0 g.1 (given_from xs (λ j z. all (suc j) z)) k (ap (λ o. slice_get (cons_option o (filter_map f xs)) k) (sym g.1) ∙ e)
    where
      by_place : (z : Y) → f x ≡ Some z → ((k : ℕ) (y : Y) → slice_get (filter_map f xs) k ≡ Some y → Gives xs k y) → (k : ℕ) → slice_get (z ∷ filter_map f xs) k ≡ Some y → Gives (x ∷ xs) k y
      by_place z is later zero e = (x, refl, is ∙ e)
      by_place z is later (suc k) e = later k y e

  pub given_at : (xs : List X) → GivesAll xs → (k : ℕ) (x : X) (y : Y) → slice_get xs k ≡ Some x → f x ≡ Some y → slice_get (filter_map f xs) k ≡ Some y
  given_at [] all k x y e is = absurd (none-some x e)
  given_at (z ∷ xs) all zero x y e is = ap (λ o. slice_get (cons_option o (filter_map f xs)) 0) (ap f (same_Some z x e) ∙ is)
  given_at (z ∷ xs) all (suc k) x y e is =
      let g = all 0 z refl in
      ap (λ o. slice_get (cons_option o (filter_map f xs)) (suc k)) g.1 ∙ given_at xs (λ j v. all (suc j) v) k x y e is

-- ---- lists in order

all_at : {X : Type 0} (P : X → Type 0) (xs : List X) → AllByRecursion P xs → (k : ℕ) (x : X) → slice_get xs k ≡ Some x → P x
all_at P [] all k x e = absurd (none-some x e)
all_at P (y ∷ ys) all zero x e = subst P (same_Some y x e) all.0
all_at P (y ∷ ys) all (suc k) x e = all_at P ys all.1 k x e

all_left : {X : Type 0} (P : X → Type 0) (xs ys : List X) → AllByRecursion P (xs ++ ys) → AllByRecursion P xs
all_left P [] ys all = tt
all_left P (x ∷ xs) ys all = (all.0, all_left P xs ys all.1)

module _ {K : Type 0} (c : K → K → Ordering) (apart : (x : K) → c x x ≡ Less → ⊥) where
  -- an element stands at one place
  pub once : (xs : List K) → IsStrictlySortedBy c xs → (i j : ℕ) (x : K) → slice_get xs i ≡ Some x → slice_get xs j ≡ Some x → i ≡ j
  once [] s i j x e f = absurd (none-some x e)
  once (y ∷ ys) s zero zero x e f = refl
  once (y ∷ ys) s zero (suc j) x e f = absurd (apart x (subst (λ z. c z x ≡ Less) (same_Some y x e) (all_at (λ z. c y z ≡ Less) ys (sorted_head c y ys s) j x f)))
  once (y ∷ ys) s (suc i) zero x e f = absurd (apart x (subst (λ z. c z x ≡ Less) (same_Some y x f) (all_at (λ z. c y z ≡ Less) ys (sorted_head c y ys s) i x e)))
  once (y ∷ ys) s (suc i) (suc j) x e f = ap suc (once ys (sorted_tail c y ys s) i j x e f)

  sorted_right : (xs ys : List K) → IsStrictlySortedBy c (xs ++ ys) → IsStrictlySortedBy c ys
  sorted_right [] ys s = s
  sorted_right (x ∷ xs) ys s = sorted_right xs ys (sorted_tail c x (xs ++ ys) s)

  sorted_left : (xs ys : List K) → IsStrictlySortedBy c (xs ++ ys) → IsStrictlySortedBy c xs
  unfolding IsStrictlySortedBy
  sorted_left [] ys s = tt
  sorted_left (x ∷ xs) ys s = (all_left (λ y. c x y ≡ Less) xs ys (sorted_head c x (xs ++ ys) s), sorted_left xs ys (sorted_tail c x (xs ++ ys) s))

  -- no element stands in both parts
  parts_apart : (xs ys : List K) → IsStrictlySortedBy c (xs ++ ys) → (x : K) → Contains xs x → Contains ys x → ⊥
  parts_apart [] ys s x e f = contains_none [] x refl e
  parts_apart (y ∷ xs) ys s x e f = elim (contains_cases y xs x e) [
    | inl same ↦
        let p = place_of (xs ++ ys) x (Contains-append_right xs ys x f) in
        apart x (subst (λ z. c z x ≡ Less) same (all_at (λ z. c y z ≡ Less) (xs ++ ys) (sorted_head c y (xs ++ ys) s) p.0 x p.1))
    | inr later ↦ parts_apart xs ys (sorted_tail c y (xs ++ ys) s) x later f
  ]

  module _ {X : Type 0} (f : X → List K) where
    -- what each element has is in order
    pub piece_sorted : (xs : List X) → IsStrictlySortedBy c (flat_map f xs) → (i : ℕ) (x : X) → slice_get xs i ≡ Some x → IsStrictlySortedBy c (f x)
    piece_sorted [] s i x e = absurd (none-some x e)
    piece_sorted (y ∷ ys) s zero x e = subst (λ z. IsStrictlySortedBy c (f z)) (same_Some y x e) (sorted_left (f y) (flat_map f ys) s)
    piece_sorted (y ∷ ys) s (suc i) x e = piece_sorted ys (sorted_right (f y) (flat_map f ys) s) i x e

    first_alone : (x : X) (xs : List X) → IsStrictlySortedBy c (flat_map f (x ∷ xs)) → (j : ℕ) (y : X) (k : K) → slice_get xs j ≡ Some y → Contains (f x) k → Contains (f y) k → ⊥
    first_alone x xs s j y k e here there = parts_apart (f x) (flat_map f xs) s k here (contains_flat f xs y k (contains_at xs j y e) there)

    -- and no two have the same
    pub piece_once : (xs : List X) → IsStrictlySortedBy c (flat_map f xs) → (i j : ℕ) (x y : X) (k : K) → slice_get xs i ≡ Some x → slice_get xs j ≡ Some y → Contains (f x) k → Contains (f y) k → i ≡ j
    piece_once [] s i j x y k e g a b = absurd (none-some x e)
    piece_once (z ∷ xs) s zero zero x y k e g a b = refl
    piece_once (z ∷ xs) s zero (suc j) x y k e g a b = absurd (first_alone z xs s j y k g (subst (λ v. Contains (f v) k) (sym (same_Some z x e)) a) b)
    piece_once (z ∷ xs) s (suc i) zero x y k e g a b = absurd (first_alone z xs s i x k e (subst (λ v. Contains (f v) k) (sym (same_Some z y g)) b) a)
    piece_once (z ∷ xs) s (suc i) (suc j) x y k e g a b = ap suc (piece_once xs (sorted_right (f z) (flat_map f xs) s) i j x y k e g a b)

-- ---- one list after the other

pub push_right : {X : Type 0} (xs ys : List X) (k : ℕ) (y : X) → slice_get ys k ≡ Some y → slice_get (xs ++ ys) (length xs + k) ≡ Some y
push_right [] ys k y e = let same : 0 + k ≡ k = omega arith in ap (slice_get ys) same ∙ e
push_right (x ∷ xs) ys k y e = let same : suc (length xs) + k ≡ suc (length xs + k) = omega arith in ap (slice_get (x ∷ (xs ++ ys))) same ∙ push_right xs ys k y e
