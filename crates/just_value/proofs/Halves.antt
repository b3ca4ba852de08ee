-- A search by halves among ascending keys, and what an insertion at its place keeps.
use Rattle.std.proofs.Common.{◌≡◌, ℕ, zero, suc, ◌+◌, ◌/◌, ◌<◌, ◌≤◌, inl, inr, List, [], ◌∷◌, length, get_or, map, min, refl, sym, ap, subst, ◌∙◌, arith}
use Rattle.std.specs.Cmp.{IsTotalOrder}
use Rattle.std.specs.List.{AllWithin, AllByRecursion, insert}
use Rattle.std.specs.List.Sorted.{IsStrictlySortedBy}
use Rattle.std.specs.Ordering.{ordering_reverse}
use Rattle.std.specs.declared.cmp.Ordering.{Ordering}
use Rattle.std.specs.declared.cmp.Ordering.TheVariants.{Less, Greater}
use Rattle.std.proofs.lemmas.Bool.{cases_lt}
use Rattle.std.proofs.lemmas.List.{get_or-map}
use Rattle.std.proofs.lemmas.Map.Keys.{Less-from_sorted}
use Rattle.just_value.specs.Searches.{digits, digits_within}

-- ---- how many comparisons

more_digits : (f g m n : ℕ) → m ≤ n → n ≤ g → digits_within f m ≤ digits_within g n
more_digits zero g m n le enough = omega arith
more_digits (suc f) g zero n le enough = omega arith
more_digits (suc f) g (suc m) zero le enough = absurd (omega (arith, le))
more_digits (suc f) zero (suc m) (suc n) le enough = absurd (omega (arith, enough))
more_digits (suc f) (suc g) (suc m) (suc n) le enough = omega (arith, more_digits f g (suc m / 2) (suc n / 2) (omega (arith, le)) (omega (arith, enough)))

-- half as many have a digit less
pub digit_less : (m n : ℕ) → m ≤ n / 2 → 0 < n → digits m + 1 ≤ digits n
digit_less m zero half some = absurd (omega (arith, some))
digit_less m (suc n) half some = omega (arith, more_digits m n m (suc n / 2) half (omega arith))

-- a comparison halves what is left
pub fewer : (taken next m n bound most : ℕ) → next ≡ min (taken + 1) most → m ≤ n / 2 → 0 < n → taken + digits n ≤ bound → next + digits m ≤ bound
fewer taken next m n bound most counted half some within = omega (arith, counted, digit_less m n half some, within)

-- ---- where the key stands

-- the keys before low are lesser, and those from high on greater
pub record Narrowed {K : Type 0} (R : K → K → Ordering) (ks : List K) (q : K) (low high : ℕ) : Type 0 where
  pub ordered : low ≤ high
  pub inside : high ≤ length ks
  pub before : AllWithin (λ k. R k q ≡ Less) ks 0 low
  pub after : AllWithin (λ k. R q k ≡ Less) ks high (length ks)

pub whole : {K : Type 0} (R : K → K → Ordering) (ks : List K) (q : K) → Narrowed R ks q 0 (length ks)
whole R ks q = record { ordered = omega arith; inside = omega arith; before = λ k d a b. absurd (omega (arith, b)); after = λ k d a b. absurd (omega (arith, a, b)) }

same_or_below : {G : Type 0} (i j : ℕ) → i ≤ j → (i ≡ j → G) → (i < j → G) → G
same_or_below i j le same below = elim (cases_lt i j) [
  | inl lt ↦ below lt
  | inr ge ↦ same (omega (arith, le, ge))
]

module _ {K : Type 0} {R : K → K → Ordering} (o : IsTotalOrder R) (ks : List K) (q : K) (sorted : IsStrictlySortedBy R ks) (low high mid : ℕ) (above : low ≤ mid) (below : mid < high) (n : Narrowed R ks q low high) where
  pub lowered : ((d : K) → R q (get_or ks mid d) ≡ Less) → Narrowed R ks q low mid
  lowered less = record {
    ordered = above;
    inside = omega (arith, below, n.inside);
    before = n.before;
    after = λ k d a b. same_or_below mid k a
        (λ same. subst (λ i. R q (get_or ks i d) ≡ Less) same (less d))
        (λ lt. o.trans q (get_or ks mid d) (get_or ks k d) (less d) (Less-from_sorted R ks mid k d sorted lt b));
  }

  under : (k : K) → R q k ≡ Greater → R k q ≡ Less
  under k greater = o.antisymm k q ∙ ap ordering_reverse greater

  pub raised : ((d : K) → R q (get_or ks mid d) ≡ Greater) → Narrowed R ks q (mid + 1) high
  raised greater = record {
    ordered = omega (arith, below);
    inside = n.inside;
    before = λ k d a b. same_or_below k mid (omega (arith, b))
        (λ same. subst (λ i. R (get_or ks i d) q ≡ Less) (sym same) (under (get_or ks mid d) (greater d)))
        (λ lt. o.trans (get_or ks k d) (get_or ks mid d) q (Less-from_sorted R ks k mid d sorted lt (omega (arith, below, n.inside))) (under (get_or ks mid d) (greater d)));
    after = n.after;
  }

-- what is read at a place of a row is the key at that place
pub key_read : {X K : Type 0} (f : X → K) (xs : List X) (i : ℕ) (x : X) → i < length xs → x ≡ get_or xs i x → (d : K) → f x ≡ get_or (map f xs) i d
key_read f xs i x lt is d = ap f is ∙ sym (get_or-map f xs i x d lt)

-- ---- an insertion

pub map_insert : {X Y : Type 0} (f : X → Y) (xs : List X) (i : ℕ) (x : X) → map f (insert xs i x) ≡ insert (map f xs) i (f x)
map_insert f xs zero x = refl
map_insert f [] (suc i) x = refl
map_insert f (y ∷ xs) (suc i) x = ap (λ l. f y ∷ l) (map_insert f xs i x)

module _ {K : Type 0} (R : K → K → Ordering) where
  all_inserted : (P : K → Type 0) (ks : List K) (i : ℕ) (q : K) → P q → AllByRecursion P ks → AllByRecursion P (insert ks i q)
  all_inserted P ks zero q p all = (p, all)
  all_inserted P [] (suc i) q p all = (p, all)
  all_inserted P (k ∷ ks) (suc i) q p all = (all.0, all_inserted P ks i q p all.1)

  all_within : (P : K → Type 0) (ks : List K) → AllWithin P ks 0 (length ks) → AllByRecursion P ks
  all_within P [] all = tt
  all_within P (k ∷ ks) all = (all 0 k (omega arith) (omega arith), all_within P ks (λ i d a b. all (suc i) d (omega arith) (omega (arith, b))))

  -- a key at its place keeps the order
  pub sorted_inserted : (ks : List K) (i : ℕ) (q : K) → IsStrictlySortedBy R ks → AllWithin (λ k. R k q ≡ Less) ks 0 i → AllWithin (λ k. R q k ≡ Less) ks i (length ks) → IsStrictlySortedBy R (insert ks i q)
  unfolding IsStrictlySortedBy
  sorted_inserted ks zero q sorted before after = (all_within (λ k. R q k ≡ Less) ks after, sorted)
  sorted_inserted [] (suc i) q sorted before after = (tt, tt)
  sorted_inserted (k ∷ ks) (suc i) q sorted before after = (
    all_inserted (λ y. R k y ≡ Less) ks i q (before 0 k (omega arith) (omega arith)) sorted.0,
    sorted_inserted ks i q sorted.1 (λ j d a b. before (suc j) d (omega arith) (omega (arith, b))) (λ j d a b. after (suc j) d (omega (arith, a)) (omega (arith, b))),
  )
