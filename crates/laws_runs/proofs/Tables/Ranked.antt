-- Ranks in an order that has each thing once.
use Rattle.std.proofs.Common.{◌≡◌, ◌<◌, ◌≤◌, ◌+◌, ℕ, zero, suc, Bool, true, false, ◌||◌, cond, List, [], ◌∷◌, Option, Some, None, inl, inr, length, nat_eq, eqb, refl, sym, ap, ◌∙◌, arith}
use Rattle.std.specs.List.{IsDistinct, AllByRecursion, list_any, slice_get}
use Rattle.std.specs.Option.{option_or, unwrap_or}
use Rattle.std.proofs.lemmas.Bool.{ne_eqb}
use Rattle.std.proofs.lemmas.Bool.Decides.{eqb_tells, leb_tells}
use Rattle.std.proofs.lemmas.Map.Steps.{length-le_from_distinct_below}
use Rattle.std.proofs.lemmas.Option.{none-some, same_Some}
use Rattle.resolve_recipes.specs.Ranks.{AreRanks, last_rank}

-- ---- so many things at most

abbrev EachOnce : List ℕ → Type 0
EachOnce xs = (i j x : ℕ) → slice_get xs i ≡ Some x → slice_get xs j ≡ Some x → i ≡ j

others : (x : ℕ) (xs : List ℕ) → ((j : ℕ) → slice_get xs j ≡ Some x → ⊥) → AllByRecursion (λ y. eqb x y ≡ false) xs
others x [] none = tt
others x (y ∷ xs) none = (ne_eqb x y (λ e. none zero (ap (λ n. Some n) (sym e))), others x xs (λ j. none (suc j)))

distinct : (xs : List ℕ) → EachOnce xs → IsDistinct eqb xs
unfolding IsDistinct
distinct [] once = tt
distinct (x ∷ xs) once = (
  others x xs (λ j there. let e : zero ≡ suc j = once zero (suc j) x refl there in absurd (omega (arith, e))),
  distinct xs (λ i j y a b. let e : suc i ≡ suc j = once (suc i) (suc j) y a b in omega (arith, e)),
)

or_right : (a b : Bool) → a ≡ false → (a || b) ≡ true → b ≡ true
or_right true b e h = absurd (cc e)
or_right false b e h = h

any_there : (q : ℕ) (xs : List ℕ) → list_any (eqb q) xs ≡ true → (k : ℕ) × (slice_get xs k ≡ Some q)
any_there q [] e = absurd (let f : false ≡ true = e in cc f)
any_there q (x ∷ xs) e = elim (eqb_tells q x) [
  | inl p ↦ (zero, ap (λ n. Some n) (sym p.1))
  | inr p ↦ let more = any_there q xs (or_right (eqb q x) (list_any (eqb q) xs) p.0 e) in (suc more.0, more.1)
]

pub at_most : (xs : List ℕ) (n : ℕ) → EachOnce xs → ((i x : ℕ) → slice_get xs i ≡ Some x → x < n) → length xs ≤ n
at_most xs n once below = length-le_from_distinct_below xs n (distinct xs once) (λ q e. let there = any_there q xs e in below there.0 q there.1)

-- ---- the last rank

if_some : (r q : ℕ) (b : Bool) → cond b (Some r) None ≡ Some q → r ≡ q
if_some r q true e = same_Some r q e
if_some r q false e = absurd (none-some q e)

-- a rank stands at its place among these, which begin with the one at r
abbrev Ranks : ℕ → List ℕ → ℕ → ℕ → Type 0
Ranks r xs thing q = (k : ℕ) × (r + k ≡ q) × (slice_get xs k ≡ Some thing)

by_later : (r x : ℕ) (xs : List ℕ) (thing q : ℕ) (later : Option ℕ) → ((p : ℕ) → later ≡ Some p → Ranks (suc r) xs thing p) → option_or later (cond (nat_eq x thing) (Some r) None) ≡ Some q → Ranks r (x ∷ xs) thing q
by_later r x xs thing q (Some p) behind e =
    let more = behind p refl in
    let n = more.1 in
    let s = same_Some p q e in
    (suc more.0, omega (arith, n, s), more.2)
by_later r x xs thing q None behind e = elim (eqb_tells x thing) [
  | inl p ↦
      let s = if_some r q (nat_eq x thing) e in
      (zero, omega (arith, s), ap (λ n. Some n) p.1)
  | inr p ↦ absurd (none-some q (ap (λ b. cond b (Some r) None) (sym p.0) ∙ e))
]

-- a thing's last rank is one of its places
pub rank_there : (r : ℕ) (xs : List ℕ) (thing q : ℕ) → last_rank r xs thing ≡ Some q → Ranks r xs thing q
rank_there r [] thing q e = absurd (none-some q e)
rank_there r (x ∷ xs) thing q e = by_later r x xs thing q (last_rank (suc r) xs thing) (λ p is. rank_there (suc r) xs thing p is) e

some_later : (b : Bool) (r : ℕ) (o : Option ℕ) (k : ℕ) → o ≡ Some k → option_or o (cond b (Some r) None) ≡ Some k
some_later b r o k e = ap (λ p. option_or p (cond b (Some r) None)) e

by_first : (r x : ℕ) (xs : List ℕ) (thing : ℕ) (later : Option ℕ) → last_rank (suc r) xs thing ≡ later → x ≡ thing → (q : ℕ) × (last_rank r (x ∷ xs) thing ≡ Some q)
by_first r x xs thing (Some p) is e = (p, some_later (nat_eq x thing) r (last_rank (suc r) xs thing) p is)
by_first r x xs thing None is e = elim (eqb_tells x thing) [
  | inl p ↦ (r, ap (λ o. option_or o (cond (nat_eq x thing) (Some r) None)) is ∙ ap (λ b. cond b (Some r) None) p.0)
  | inr p ↦ absurd (p.1 e)
]

pub ranked : (r : ℕ) (xs : List ℕ) (thing k : ℕ) → slice_get xs k ≡ Some thing → (q : ℕ) × (last_rank r xs thing ≡ Some q)
ranked r [] thing k e = absurd (none-some thing e)
ranked r (x ∷ xs) thing zero e = by_first r x xs thing (last_rank (suc r) xs thing) refl (same_Some x thing e)
ranked r (x ∷ xs) thing (suc k) e = let more = ranked (suc r) xs thing k e in (more.0, some_later (nat_eq x thing) r (last_rank (suc r) xs thing) more.0 more.1)

-- what has a rank is one of the first things
if_less : (b : Bool) (v q : ℕ) → cond b (Some v) None ≡ Some q → (b ≡ true) × (v ≡ q)
if_less true v q e = (refl, same_Some v q e)
if_less false v q e = absurd (none-some q e)

pub has_rank : (order ranks : List ℕ) (thing q : ℕ) → AreRanks order ranks → slice_get ranks thing ≡ Some q → (thing < length order) × (unwrap_or (last_rank 0 order thing) 0 ≡ q)
has_rank order ranks thing q are e = elim (leb_tells (suc thing) (length order)) [
  | inl p ↦ (omega (arith, p.1), (if_less true (unwrap_or (last_rank 0 order thing) 0) q (ap (λ b. cond b (Some (unwrap_or (last_rank 0 order thing) 0)) None) (sym p.0) ∙ sym (are thing) ∙ e)).1)
  | inr p ↦ absurd (none-some q (ap (λ b. cond b (Some (unwrap_or (last_rank 0 order thing) 0)) None) (sym p.0) ∙ sym (are thing) ∙ e))
]

pub rank_is : (order : List ℕ) (thing at q : ℕ) → EachOnce order → slice_get order at ≡ Some thing → unwrap_or (last_rank 0 order thing) 0 ≡ q → at ≡ q
rank_is order thing at q once here e =
    let r = ranked 0 order thing at here in
    let there = rank_there 0 order thing r.0 r.1 in
    let same : at ≡ there.0 = once at there.0 thing here there.2 in
    let n = there.1 in
    let m : r.0 ≡ q = sym (ap (λ o. unwrap_or o 0) r.1) ∙ e in
    omega (arith, same, n, m)
