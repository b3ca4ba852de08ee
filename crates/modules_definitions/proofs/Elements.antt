-- Lists that grow, their parts, and what is known of any two elements.
use Rattle.std.proofs.Common.{◌≡◌, ◌∙◌, ◌<◌, ◌≤◌, ◌+◌, ◌++◌, ◌∷◌, [], ℕ, zero, suc, List, Option, Some, None, length, get_or, take, sym, ap, subst, refl, arith, inl, inr, ◌⊎◌}
use Rattle.std.specs.Prelude.{Contains, slice_get}
use Rattle.std.proofs.lemmas.Option.{none-some, same_Some, slice_get-get_or, slice_get_within, get_or_from_slice_get}
use Rattle.modules_definitions.specs.Keeping.{IsPart, none, keeps, leaves}

module _ {X : Type 0} where
  -- ---- places and elements

  pub place_of : (xs : List X) (x : X) → Contains xs x → (k : ℕ) × (slice_get xs k ≡ Some x)
  place_of xs x h = (h.0, slice_get-get_or xs h.0 x h.1 ∙ ap (λ y. Some y) h.2)

  pub contains_at : (xs : List X) (k : ℕ) (x : X) → slice_get xs k ≡ Some x → Contains xs x
  contains_at xs k x e = (k, slice_get_within xs k x e, get_or_from_slice_get xs k x x e)

  pub nothing : (x : X) → Contains [] x → ⊥
  nothing x c = let lt = c.1 in omega arith

  pub before_take : (xs : List X) (j at : ℕ) (x : X) → slice_get (take j xs) at ≡ Some x → (at < j) × (slice_get xs at ≡ Some x)
  before_take [] zero at x e = absurd (none-some x e)
  before_take [] (suc j) at x e = absurd (none-some x e)
  before_take (y ∷ ys) zero at x e = absurd (none-some x e)
  before_take (y ∷ ys) (suc j) zero x e = (omega arith, e)
  before_take (y ∷ ys) (suc j) (suc at) x e = let r = before_take ys j at x e in let lt = r.0 in (omega arith, r.1)

  -- an element of a list with one more is one of the list, or that one
  pub push_place : (xs : List X) (y : X) (at : ℕ) (x : X) → slice_get (xs ++ y ∷ []) at ≡ Some x → (slice_get xs at ≡ Some x) ⊎ ((at ≡ length xs) × (y ≡ x))
  push_place [] y zero x e = inr (refl, same_Some y x e)
  push_place [] y (suc at) x e = absurd (none-some x e)
  push_place (z ∷ zs) y zero x e = inl e
  push_place (z ∷ zs) y (suc at) x e = elim (push_place zs y at x e) [ inl old ↦ inl old | inr p ↦ inr (ap suc p.0, p.1) ]

  pub place_stays : (xs ys : List X) (at : ℕ) (x : X) → slice_get xs at ≡ Some x → slice_get (xs ++ ys) at ≡ Some x
  place_stays [] ys at x e = absurd (none-some x e)
  place_stays (z ∷ zs) ys zero x e = e
  place_stays (z ∷ zs) ys (suc at) x e = place_stays zs ys at x e

  pub last_place : (xs : List X) (y : X) → slice_get (xs ++ y ∷ []) (length xs) ≡ Some y
  last_place [] y = refl
  last_place (z ∷ zs) y = last_place zs y

  -- ---- any two, the first before the second

  abbrev pub AnyTwo : (X → X → Type 0) → List X → Type 0
  AnyTwo R xs = (i j : ℕ) (a b : X) → i < j → slice_get xs i ≡ Some a → slice_get xs j ≡ Some b → R a b

  pub no_two : (R : X → X → Type 0) → AnyTwo R []
  no_two R i j a b lt e f = absurd (none-some a e)

  pub two_more : (R : X → X → Type 0) (xs : List X) (y : X) → AnyTwo R xs → ((a : X) → Contains xs a → R a y) → AnyTwo R (xs ++ y ∷ [])
  two_more R xs y two more i j a b lt e f = elim (push_place xs y j b f) [
    | inl late ↦ elim (push_place xs y i a e) [
      | inl early ↦ two i j a b lt early late
      | inr p ↦ let w = slice_get_within xs j b late in let q = p.0 in absurd (omega arith)
    ]
    | inr last ↦ elim (push_place xs y i a e) [
      | inl early ↦ subst (R a) last.1 (more a (contains_at xs i a early))
      | inr p ↦ let q = p.0 in let r = last.0 in absurd (omega arith)
    ]
  ]

  -- ---- parts

  pub part_none : (ys : List X) → IsPart [] ys
  part_none [] = none
  part_none (y ∷ ys) = leaves (part_none ys)

  pub part_push : {xs ys : List X} (z : X) → IsPart xs ys → IsPart (xs ++ z ∷ []) (ys ++ z ∷ [])
  part_push z none = keeps none
  part_push z (keeps p) = keeps (part_push z p)
  part_push z (leaves p) = leaves (part_push z p)

  pub part_leave : {xs ys : List X} (z : X) → IsPart xs ys → IsPart xs (ys ++ z ∷ [])
  part_leave z none = leaves none
  part_leave z (keeps p) = keeps (part_leave z p)
  part_leave z (leaves p) = leaves (part_leave z p)

  pub part_front : (xs : List X) (z : X) (ys : List X) → IsPart (xs ++ z ∷ []) ys → IsPart xs ys
  part_front [] z ys p = part_none ys
  part_front (x ∷ xs) z [] p = elim p [ ]
  part_front (x ∷ xs) z (y ∷ ys) (keeps p) = keeps (part_front xs z ys p)
  part_front (x ∷ xs) z (y ∷ ys) (leaves p) = leaves (part_front (x ∷ xs) z ys p)
