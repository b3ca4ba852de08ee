-- Where a finite relation has no cycle, each goes to lower ones alone.
use Rattle.std.proofs.Common.{◌≡◌, ◌<◌, ◌≤◌, ◌+◌, ℕ, zero, suc, List, [], ◌∷◌, length, Bool, true, false, cond, ◌⊎◌, inl, inr, refl, sym, ap, ap₂, ◌∙◌, subst, arith}
use Rattle.std.specs.Prelude.{Contains}
use Rattle.meaning_rules.proofs.Worlds.Places.{contains_cases, contains_first, contains_later, contains_none}

abbrev sum_of : {X : Type 0} → (X → ℕ) → List X → ℕ
sum_of f [] = 0
sum_of f (x ∷ xs) = f x + sum_of f xs

in_sum : {X : Type 0} (f : X → ℕ) (xs : List X) (x : X) → Contains xs x → f x ≤ sum_of f xs
in_sum f [] x c = absurd (contains_none [] x refl c)
in_sum f (y ∷ ys) x c = by_place (contains_cases y ys x c) (in_sum f ys x)
  where
    by_place : (y ≡ x) ⊎ Contains ys x → (Contains ys x → f x ≤ sum_of f ys) → f x ≤ f y + sum_of f ys
    by_place (inl e) later = subst (λ z. f z ≤ f y + sum_of f ys) e (omega arith)
    by_place (inr k) later = let le = later k in omega (arith, le)

same_sum : {X : Type 0} (f g : X → ℕ) (xs : List X) → ((x : X) → Contains xs x → f x ≡ g x) → sum_of f xs ≡ sum_of g xs
same_sum f g [] same = refl
same_sum f g (x ∷ xs) same = ap₂ (λ a b. a + b) (same x (contains_first x xs)) (same_sum f g xs (λ y c. same y (contains_later x xs y c)))

module _ {X : Type 0} (next : X → List X) where
  -- so many steps from one on
  abbrev pub Walk : ℕ → X → Type 0
  Walk zero x = Unit {0}
  Walk (suc n) x = (y : X) × Contains (next x) y × Walk n y

  abbrev pub height : ℕ → X → ℕ
  height zero x = 0
  height (suc n) x = suc (sum_of (height n) (next x))

  stable : (n : ℕ) (x : X) → (Walk n x → ⊥) → height n x ≡ height (suc n) x
  stable zero x none = absurd (none tt)
  stable (suc n) x none = ap suc (same_sum (height n) (height (suc n)) (next x) (λ y c. stable n y (λ walk. none (y, c, walk))))

  -- where no walk is so long, steps lead down
  pub falls : (n : ℕ) → ((x : X) → Walk n x → ⊥) → (x y : X) → Contains (next x) y → height n y < height n x
  falls zero none x y c = absurd (none x tt)
  falls (suc n) none x y c =
      let e : height n y ≡ height (suc n) y = stable n y (λ walk. none x (y, c, walk)) in
      let le : height n y ≤ sum_of (height n) (next x) = in_sum (height n) (next x) y c in
      omega (arith, e, le)

  -- some steps from one to another
  pub data Path : X → X → Type 0 where
    one : {a b : X} → Contains (next a) b → Path a b
    more : {a b c : X} → Contains (next a) b → Path b c → Path a c

  one_more : {a b c : X} → Path a b → Contains (next b) c → Path a c
  one_more (one h) k = more h (one k)
  one_more (more h p) k = more h (one_more p k)

  -- each of a row leads to the one before it, and the first to this
  abbrev IsChain : List X → X → Type 0
  IsChain [] x = Unit {0}
  IsChain (s ∷ seen) x = Contains (next s) x × IsChain seen s

  path_back : (seen : List X) (x z : X) → Contains seen z → IsChain seen x → Path z x
  path_back [] x z c chain = absurd (contains_none [] z refl c)
  path_back (s ∷ seen) x z c chain = by_place (contains_cases s seen z c) (λ k. path_back seen s z k chain.1)
    where
      by_place : (s ≡ z) ⊎ Contains seen z → (Contains seen z → Path z s) → Path z x
      by_place (inl e) later = subst (λ y. Path y x) e (one chain.0)
      by_place (inr k) later = one_more (later k) chain.0

  module _ (same : X → X → Bool) (decides : (a b : X) → (same a b ≡ true → a ≡ b) × (a ≡ b → same a b ≡ true)) where
    -- without one
    abbrev without : X → List X → List X
    without x [] = []
    without x (y ∷ ys) = cond (same x y) (without x ys) (y ∷ without x ys)

    not_longer : (x : X) (ys : List X) → length (without x ys) ≤ length ys
    not_longer x [] = omega arith
    not_longer x (y ∷ ys) = by_test (same x y) (not_longer x ys)
      where
        by_test : (b : Bool) → length (without x ys) ≤ length ys → length (cond b (without x ys) (y ∷ without x ys)) ≤ suc (length ys)
        by_test true le = omega (arith, le)
        by_test false le = omega (arith, le)

    shorter : (x : X) (ys : List X) → Contains ys x → length (without x ys) < length ys
    shorter x [] c = absurd (contains_none [] x refl c)
    shorter x (y ∷ ys) c = by_test (same x y) refl (contains_cases y ys x c) (λ k. shorter x ys k)
      where
        by_test : (b : Bool) → same x y ≡ b → (y ≡ x) ⊎ Contains ys x → (Contains ys x → length (without x ys) < length ys) → length (cond b (without x ys) (y ∷ without x ys)) < suc (length ys)
        by_test true e place later = let le = not_longer x ys in omega (arith, le)
        by_test false e (inl h) later = absurd (let t : same x y ≡ true = (decides x y).1 (sym h) in cc)
        by_test false e (inr k) later = let lt = later k in omega (arith, lt)

    still : (x z : X) (ys : List X) → Contains ys z → (x ≡ z) ⊎ Contains (without x ys) z
    still x z [] c = absurd (contains_none [] z refl c)
    still x z (y ∷ ys) c = by_test (same x y) refl (contains_cases y ys z c) (λ k. still x z ys k)
      where
        by_test : (b : Bool) → same x y ≡ b → (y ≡ z) ⊎ Contains ys z → (Contains ys z → (x ≡ z) ⊎ Contains (without x ys) z) → (x ≡ z) ⊎ Contains (cond b (without x ys) (y ∷ without x ys)) z
        by_test true e (inl h) later = inl ((decides x y).0 e ∙ h)
        by_test true e (inr k) later = later k
        by_test false e (inl h) later = inr (subst (Contains (y ∷ without x ys)) h (contains_first y (without x ys)))
        by_test false e (inr k) later = by_rest (later k)
          where
            by_rest : (x ≡ z) ⊎ Contains (without x ys) z → (x ≡ z) ⊎ Contains (y ∷ without x ys) z
            by_rest (inl g) = inl g
            by_rest (inr g) = inr (contains_later y (without x ys) z g)

    module _ (acyclic : (x : X) → Path x x → ⊥) where
      along : (n : ℕ) (rest seen : List X) (x : X) → length rest < n → IsChain seen x → ((z y : X) → Contains (next z) y → Contains seen z ⊎ Contains rest z) → Walk n x → ⊥
      along zero rest seen x lt chain within walk = omega (arith, lt)
      along (suc n) rest seen x lt chain within (y, c, walk) = by_place (within x y c) (λ here. along n (without x rest) (x ∷ seen) y (let s = shorter x rest here in omega (arith, lt, s)) (c, chain) (λ z v k. by_other z (within z v k)) walk)
        where
          by_rest : (z : X) → (x ≡ z) ⊎ Contains (without x rest) z → Contains (x ∷ seen) z ⊎ Contains (without x rest) z
          by_rest z (inl e) = inl (subst (Contains (x ∷ seen)) e (contains_first x seen))
          by_rest z (inr k) = inr k

          by_other : (z : X) → Contains seen z ⊎ Contains rest z → Contains (x ∷ seen) z ⊎ Contains (without x rest) z
          by_other z (inl k) = inl (contains_later x seen z k)
          by_other z (inr k) = by_rest z (still x z rest k)

          by_place : Contains seen x ⊎ Contains rest x → (Contains rest x → ⊥) → ⊥
          by_place (inl k) go = acyclic x (path_back seen x x k chain)
          by_place (inr k) go = go k

      -- Where all that lead on are in a list, what one leads to is lower.
      pub heights_fall : (all : List X) → ((z y : X) → Contains (next z) y → Contains all z) → (x y : X) → Contains (next x) y → height (suc (length all)) y < height (suc (length all)) x
      heights_fall all within = falls (suc (length all)) (λ x walk. along (suc (length all)) all [] x (omega arith) tt (λ z y c. inr (within z y c)) walk)
