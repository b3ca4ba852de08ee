-- Elements of lists that are made of others.
use Rattle.std.proofs.Common.{◌≡◌, inl, inr, sym, ◌∙◌, ap, ◌<◌, ◌+◌, min, ◌∷◌, [], ℕ, zero, suc, List, Some, refl, arith, map, take, drop}
use Rattle.std.specs.Prelude.{slice_get}
use Rattle.std.proofs.Math.Nat.{min-eq_left, min-eq_right}
use Rattle.std.proofs.lemmas.Bool.{cases_lt}
use Rattle.std.proofs.lemmas.Option.{none-some, same_Some}

-- what stands in a list under a map comes of what stands there
pub mapped_at : {A B : Type 0} (f : A → B) (xs : List A) (i : ℕ) (b : B) → slice_get (map f xs) i ≡ Some b → (a : A) × (slice_get xs i ≡ Some a) × (f a ≡ b)
mapped_at f [] i b e = absurd (none-some b e)
mapped_at f (x ∷ xs) zero b e = (x, refl, same_Some (f x) b e)
mapped_at f (x ∷ xs) (suc i) b e = mapped_at f xs i b e

-- and what stands in a list stands under the map
pub map_at : {A B : Type 0} (f : A → B) (xs : List A) (i : ℕ) (a : A) → slice_get xs i ≡ Some a → slice_get (map f xs) i ≡ Some (f a)
map_at f [] i a e = absurd (none-some a e)
map_at f (x ∷ xs) zero a e = ap (λ z. Some (f z)) (same_Some x a e)
map_at f (x ∷ xs) (suc i) a e = map_at f xs i a e

-- where two lists are the same under maps, to each element of the one there is one of the other
pub other_at : {A B C : Type 0} (f : A → C) (g : B → C) (xs : List A) (ys : List B) → map f xs ≡ map g ys → (i : ℕ) (y : B) → slice_get ys i ≡ Some y → (x : A) × (slice_get xs i ≡ Some x) × (f x ≡ g y)
other_at f g xs ys e i y at = mapped_at f xs i (g y) (ap (λ zs. slice_get zs i) e ∙ map_at g ys i y at)

-- what stands in a part of a list from its start stands in the whole
pub from_take : {A : Type 0} (xs : List A) (n i : ℕ) (x : A) → slice_get (take n xs) i ≡ Some x → (i < n) × (slice_get xs i ≡ Some x)
from_take [] zero i x e = absurd (none-some x e)
from_take [] (suc n) i x e = absurd (none-some x e)
from_take (y ∷ xs) zero i x e = absurd (none-some x e)
from_take (y ∷ xs) (suc n) zero x e = (omega arith, e)
from_take (y ∷ xs) (suc n) (suc i) x e = let r = from_take xs n i x e in let lt = r.0 in (omega (arith, lt), r.1)

-- and what stands before the part's end stands in the part
pub in_take : {A : Type 0} (xs : List A) (n i : ℕ) (x : A) → i < n → slice_get xs i ≡ Some x → slice_get (take n xs) i ≡ Some x
in_take [] n i x lt e = absurd (none-some x e)
in_take (y ∷ xs) zero i x lt e = absurd (omega (arith, lt))
in_take (y ∷ xs) (suc n) zero x lt e = e
in_take (y ∷ xs) (suc n) (suc i) x lt e = in_take xs n i x (omega (arith, lt)) e

-- what is left of a list, by places of the whole
pub dropped_at : {A : Type 0} (xs : List A) (n i : ℕ) → slice_get (drop n xs) i ≡ slice_get xs (n + i)
dropped_at xs zero i = let e : i ≡ 0 + i = omega arith in ap (slice_get xs) e
dropped_at [] (suc n) i = refl
dropped_at (x ∷ xs) (suc n) i = let e : suc (n + i) ≡ suc n + i = omega arith in dropped_at xs n i ∙ ap (slice_get (x ∷ xs)) e

-- one more than a number, as far as numbers go
pub one_deeper : (most d e : ℕ) → e ≡ min d most → min (e + 1) most ≡ min (suc d) most
one_deeper most d e is = elim (cases_lt d most) [
  | inl lt ↦
      let same : e ≡ d = is ∙ min-eq_left (omega (arith, lt)) in
      let more : e + 1 ≡ suc d = omega (arith, same) in
      ap (λ n. min n most) more
  | inr ge ↦
      let same : e ≡ most = is ∙ min-eq_right ge in
      min-eq_right (omega (arith, same)) ∙ sym (min-eq_right (omega (arith, ge)))
]
