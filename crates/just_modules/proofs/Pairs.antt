-- Lists of which any two elements stand in a relation.
use Rattle.std.proofs.Common.{◌≡◌, ◌∙◌, ◌+◌, ℕ, zero, suc, Bool, true, false, cond, List, [], ◌∷◌, Option, Some, None, map, filter, filter_map, get_or, sym, ap, subst, refl, arith}
use Rattle.std.specs.Prelude.{All, slice_get}
use Rattle.std.specs.List.{cons_option}
use Rattle.std.specs.List.Sorted.{IsSortedBy}
use Rattle.std.proofs.lemmas.Option.{none-some, same_Some}
use Rattle.modules_definitions.specs.Keeping.{IsPart, none, keeps, leaves}
use Rattle.modules_definitions.proofs.Elements.{AnyTwo}

abbrev pub Has : {X : Type 0} → List X → X → Type 0
Has xs x = (i : ℕ) × (slice_get xs i ≡ Some x)

-- each stands so to all behind it
abbrev pub Pairwise : {X : Type 0} → (X → X → Type 0) → List X → Type 0
Pairwise R [] = Unit {0}
Pairwise {X} R (x ∷ xs) = ((y : X) → Has xs y → R x y) × Pairwise R xs

module _ {X : Type 0} where
  pub pairs_of : (R : X → X → Type 0) (xs : List X) → AnyTwo R xs → Pairwise R xs
  pairs_of R [] h = tt
  pairs_of R (x ∷ xs) h = (λ y at. h 0 (suc at.0) x y (omega arith) refl at.1, pairs_of R xs (λ i j a b lt e f. h (suc i) (suc j) a b (omega (arith, lt)) e f))

  pub pairs_give : (R S : X → X → Type 0) (xs : List X) → ((a b : X) → Has xs a → Has xs b → R a b → S a b) → Pairwise R xs → Pairwise S xs
  pairs_give R S [] f h = tt
  pairs_give R S (x ∷ xs) f h = (λ y at. f x y (0, refl) (suc at.0, at.1) (h.0 y at), pairs_give R S xs (λ a b p q. f a b (suc p.0, p.1) (suc q.0, q.1)) h.1)

  -- ---- parts

  pub part_has : {xs ys : List X} → IsPart xs ys → (x : X) → Has xs x → Has ys x
  part_has none x at = absurd (none-some x at.1)
  part_has (keeps p) x (zero, e) = (0, e)
  part_has (keeps p) x (suc i, e) = let r = part_has p x (i, e) in (suc r.0, r.1)
  part_has (leaves p) x at = let r = part_has p x at in (suc r.0, r.1)

  pub part_pairs : (R : X → X → Type 0) {xs ys : List X} → IsPart xs ys → Pairwise R ys → Pairwise R xs
  part_pairs R none h = tt
  part_pairs R (keeps p) h = (λ y at. h.0 y (part_has p y at), part_pairs R p h.1)
  part_pairs R (leaves p) h = part_pairs R p h.1

  pub filter_has : (p : X → Bool) (xs : List X) (x : X) → Has (filter p xs) x → Has xs x × (p x ≡ true)
  filter_has p [] x at = absurd (none-some x at.1)
  filter_has p (y ∷ xs) x at = by_test (p y) refl (filter_has p xs x) at
    where
      by_test : (b : Bool) → p y ≡ b → (Has (filter p xs) x → Has xs x × (p x ≡ true)) → Has (cond b (y ∷ filter p xs) (filter p xs)) x → Has (y ∷ xs) x × (p x ≡ true)
      by_test true is others (zero, e) = ((0, e), ap p (sym (same_Some y x e)) ∙ is)
      by_test true is others (suc i, e) = let r = others (i, e) in ((suc r.0.0, r.0.1), r.1)
      by_test false is others at = let r = others at in ((suc r.0.0, r.0.1), r.1)

  pub filter_pairs : (R : X → X → Type 0) (p : X → Bool) (xs : List X) → Pairwise R xs → Pairwise R (filter p xs)
  filter_pairs R p [] h = tt
  filter_pairs R p (x ∷ xs) h = by_test (p x) (filter_pairs R p xs h.1)
    where
      by_test : (b : Bool) → Pairwise R (filter p xs) → Pairwise R (cond b (x ∷ filter p xs) (filter p xs))
      by_test true others = (λ y at. h.0 y (filter_has p xs y at).0, others)
      by_test false others = others

  module _ {Y : Type 0} where
    map_has : (f : X → Y) (xs : List X) (y : Y) → Has (map f xs) y → (x : X) × Has xs x × (f x ≡ y)
    map_has f [] y at = absurd (none-some y at.1)
    map_has f (x ∷ xs) y (zero, e) = (x, (0, refl), same_Some (f x) y e)
    map_has f (x ∷ xs) y (suc i, e) = let r = map_has f xs y (i, e) in (r.0, (suc r.1.0, r.1.1), r.2)

    pub map_pairs : (R : Y → Y → Type 0) (f : X → Y) (xs : List X) → Pairwise (λ a b. R (f a) (f b)) xs → Pairwise R (map f xs)
    map_pairs R f [] h = tt
    map_pairs R f (x ∷ xs) h = (λ y at. let r = map_has f xs y at in subst (R (f x)) r.2 (h.0 r.0 r.1), map_pairs R f xs h.1)

    some_has : (f : X → Option Y) (xs : List X) (y : Y) → Has (filter_map f xs) y → (x : X) × Has xs x × (f x ≡ Some y)
    some_has f [] y at = absurd (none-some y at.1)
    some_has f (x ∷ xs) y at = by_option (f x) refl (some_has f xs y) at
      where
        by_option : (o : Option Y) → f x ≡ o → (Has (filter_map f xs) y → (z : X) × Has xs z × (f z ≡ Some y)) → Has (cons_option o (filter_map f xs)) y → (z : X) × Has (x ∷ xs) z × (f z ≡ Some y)
        by_option None is others at = let r = others at in (r.0, (suc r.1.0, r.1.1), r.2)
        by_option (Some w) is others (zero, e) = (x, (0, refl), is ∙ e)
        by_option (Some w) is others (suc i, e) = let r = others (i, e) in (r.0, (suc r.1.0, r.1.1), r.2)

    pub some_pairs : (R : Y → Y → Type 0) (f : X → Option Y) (xs : List X) → Pairwise (λ a b. (y z : Y) → f a ≡ Some y → f b ≡ Some z → R y z) xs → Pairwise R (filter_map f xs)
    some_pairs R f [] h = tt
    some_pairs R f (x ∷ xs) h = by_option (f x) refl (some_pairs R f xs h.1)
      where
        by_option : (o : Option Y) → f x ≡ o → Pairwise R (filter_map f xs) → Pairwise R (cons_option o (filter_map f xs))
        by_option None is others = others
        by_option (Some y) is others = (λ z at. let r = some_has f xs z at in h.0 r.0 r.1 y z is r.2, others)

    -- what holds of all that is made
    pub all_made : (P : Y → Type 0) (f : X → Y) (xs : List X) → ((x : X) → Has xs x → P (f x)) → All P (map f xs)
    all_made P f [] h k d lt = absurd (omega (arith, lt))
    all_made P f (x ∷ xs) h zero d lt = h x (0, refl)
    all_made P f (x ∷ xs) h (suc k) d lt = all_made P f xs (λ y at. h y (suc at.0, at.1)) k d (omega (arith, lt))

  -- where none is less than one before it, they are sorted
  pub pairs_sorted : (lt : X → X → Bool) (xs : List X) → Pairwise (λ a b. lt b a ≡ false) xs → IsSortedBy lt xs
  pairs_sorted lt [] h k d from inside = absurd (omega (arith, inside))
  pairs_sorted lt (x ∷ []) h k d from inside = absurd (omega (arith, inside))
  pairs_sorted lt (x ∷ y ∷ xs) h zero d from inside = h.0 y (0, refl)
  pairs_sorted lt (x ∷ y ∷ xs) h (suc k) d from inside =
      let e : suc (k + 1) ≡ suc k + 1 = omega arith in
      subst (λ n. lt (get_or (x ∷ y ∷ xs) n d) (get_or (y ∷ xs) k d) ≡ false) e (pairs_sorted lt (y ∷ xs) h.1 k d (omega arith) (omega (arith, inside)))
