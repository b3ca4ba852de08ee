-- Places in lists in strict order, and in lists that are put together.
use Rattle.std.proofs.Common.{◌≡◌, inl, inr, sym, ◌∙◌, ap, subst, List, [], ◌∷◌, ◌++◌, ℕ, zero, suc, ◌<◌, ◌+◌, Some, refl, arith, length}
use Rattle.std.specs.Prelude.{slice_get, Contains}
use Rattle.std.specs.Cmp.{IsTotalOrder}
use Rattle.std.specs.List.{AllByRecursion, flat_map}
use Rattle.std.specs.List.Sorted.{IsStrictlySortedBy}
use Rattle.std.specs.Ordering.{ordering_reverse}
use Rattle.std.specs.declared.cmp.Ordering.{Ordering}
use Rattle.std.specs.declared.cmp.Ordering.TheVariants.{Less}
use Rattle.std.proofs.lemmas.Bool.Decides.{leb_tells}
use Rattle.std.proofs.lemmas.Map.Keys.{Less-from_sorted}
use Rattle.std.proofs.lemmas.Option.{none-some, same_Some, slice_get_within, get_or_from_slice_get}
use Rattle.meaning_rules.proofs.Worlds.Places.{contains_at, place_of, push_left}

module _ {K : Type 0} {c : K → K → Ordering} (o : IsTotalOrder c) where
  irreflexive : (k : K) → c k k ≡ Less → ⊥
  irreflexive k e = absurd (cc (sym e ∙ o.antisymm k k ∙ ap ordering_reverse e))

  never_before : (ks : List K) (i j : ℕ) (k : K) → IsStrictlySortedBy c ks → i < j → slice_get ks i ≡ Some k → slice_get ks j ≡ Some k → ⊥
  never_before ks i j k sorted lt e f =
      let less = Less-from_sorted c ks i j k sorted lt (slice_get_within ks j k f) in
      irreflexive k (sym (ap (λ x. c x k) (get_or_from_slice_get ks i k k e)) ∙ sym (ap (c _) (get_or_from_slice_get ks j k k f)) ∙ less)

  -- in a list in strict order an element has one place
  pub one_place : (ks : List K) (i j : ℕ) (k : K) → IsStrictlySortedBy c ks → slice_get ks i ≡ Some k → slice_get ks j ≡ Some k → i ≡ j
  one_place ks i j k sorted e f = elim (leb_tells (suc i) j) [
    | inl p ↦ absurd (never_before ks i j k sorted p.1 e f)
    | inr p ↦ elim (leb_tells (suc j) i) [
      | inl q ↦ absurd (never_before ks j i k sorted q.1 f e)
      | inr q ↦ let less = p.1 in let more = q.1 in omega (arith, less, more)
    ]
  ]

  -- no element of its first part stands in its second part
  pub parts_apart : (xs ys : List K) (k : K) → IsStrictlySortedBy c (xs ++ ys) → Contains xs k → Contains ys k → ⊥
  parts_apart xs ys k sorted h g =
      let p = place_of xs k h in
      let q = place_of ys k g in
      let lt = slice_get_within xs p.0 k p.1 in
      let same = one_place (xs ++ ys) p.0 (length xs + q.0) k sorted (push_left xs ys p.0 k p.1) (push_right xs ys q.0 k q.1) in
      absurd (omega (arith, lt, same))
    where
      push_right : (us vs : List K) (i : ℕ) (x : K) → slice_get vs i ≡ Some x → slice_get (us ++ vs) (length us + i) ≡ Some x
      push_right [] vs i x e = let same : 0 + i ≡ i = omega arith in ap (slice_get vs) same ∙ e
      push_right (u ∷ us) vs i x e = let same : suc (length us) + i ≡ suc (length us + i) = omega arith in ap (slice_get (u ∷ (us ++ vs))) same ∙ push_right us vs i x e

all_left : {K : Type 0} (P : K → Type 0) (xs ys : List K) → AllByRecursion P (xs ++ ys) → AllByRecursion P xs
all_left P [] ys all = tt
all_left P (x ∷ xs) ys all = (all.0, all_left P xs ys all.1)

-- both parts of a list in strict order are so
sorted_left : {K : Type 0} (c : K → K → Ordering) (xs ys : List K) → IsStrictlySortedBy c (xs ++ ys) → IsStrictlySortedBy c xs
unfolding IsStrictlySortedBy
sorted_left c [] ys sorted = tt
sorted_left c (x ∷ xs) ys sorted = (all_left (λ y. c x y ≡ Less) xs ys sorted.0, sorted_left c xs ys sorted.1)

sorted_right : {K : Type 0} (c : K → K → Ordering) (xs ys : List K) → IsStrictlySortedBy c (xs ++ ys) → IsStrictlySortedBy c ys
unfolding IsStrictlySortedBy
sorted_right c [] ys sorted = sorted
sorted_right c (x ∷ xs) ys sorted = sorted_right c xs ys sorted.1

module _ {A K : Type 0} (f : A → List K) where
  -- what a list at a place has stands in all of them together
  pub contains_flat : (xs : List A) (i : ℕ) (a : A) (k : K) → slice_get xs i ≡ Some a → Contains (f a) k → Contains (flat_map f xs) k
  contains_flat [] i a k e h = absurd (none-some a e)
  contains_flat (x ∷ xs) zero a k e h =
      let p = place_of (f x) k (subst (λ y. Contains (f y) k) (sym (same_Some x a e)) h) in
      contains_at (f x ++ flat_map f xs) p.0 k (push_left (f x) (flat_map f xs) p.0 k p.1)
  contains_flat (x ∷ xs) (suc i) a k e h = contains_behind (f x) (flat_map f xs) (contains_flat xs i a k e h)
    where
      contains_behind : (us vs : List K) → Contains vs k → Contains (us ++ vs) k
      contains_behind [] vs h = h
      contains_behind (u ∷ us) vs h = let p = place_of (us ++ vs) k (contains_behind us vs h) in contains_at (u ∷ (us ++ vs)) (suc p.0) k p.1

  module _ {c : K → K → Ordering} (o : IsTotalOrder c) where
    -- in lists that are in strict order together an element stands in one list
    pub one_list : (xs : List A) (i j : ℕ) (a b : A) (k : K) → IsStrictlySortedBy c (flat_map f xs) → slice_get xs i ≡ Some a → slice_get xs j ≡ Some b → Contains (f a) k → Contains (f b) k → i ≡ j
    one_list [] i j a b k sorted e g h l = absurd (none-some a e)
    one_list (x ∷ xs) zero zero a b k sorted e g h l = refl
    one_list (x ∷ xs) zero (suc j) a b k sorted e g h l =
        absurd (parts_apart o (f x) (flat_map f xs) k sorted (subst (λ y. Contains (f y) k) (sym (same_Some x a e)) h) (contains_flat xs j b k g l))
    one_list (x ∷ xs) (suc i) zero a b k sorted e g h l =
        absurd (parts_apart o (f x) (flat_map f xs) k sorted (subst (λ y. Contains (f y) k) (sym (same_Some x b g)) l) (contains_flat xs i a k e h))
    one_list (x ∷ xs) (suc i) (suc j) a b k sorted e g h l = ap suc (one_list xs i j a b k (sorted_right c (f x) (flat_map f xs) sorted) e g h l)

    -- each of these lists is in strict order
    pub list_sorted : (xs : List A) (i : ℕ) (a : A) → IsStrictlySortedBy c (flat_map f xs) → slice_get xs i ≡ Some a → IsStrictlySortedBy c (f a)
    list_sorted [] i a sorted e = absurd (none-some a e)
    list_sorted (x ∷ xs) zero a sorted e = subst (λ y. IsStrictlySortedBy c (f y)) (same_Some x a e) (sorted_left c (f x) (flat_map f xs) sorted)
    list_sorted (x ∷ xs) (suc i) a sorted e = list_sorted xs i a (sorted_right c (f x) (flat_map f xs) sorted) e
