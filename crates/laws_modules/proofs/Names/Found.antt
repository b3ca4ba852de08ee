-- What a search in a list finds, and places of mapped lists.
use Rattle.std.proofs.Common.{◌≡◌, sym, ◌∙◌, ap, Bool, true, false, cond, List, [], ◌∷◌, Some, None, ℕ, zero, suc, ◌<◌, length, refl, map, arith, ◌++◌, take, drop, ◌+◌}
use Rattle.std.specs.Prelude.{slice_get}
use Rattle.std.specs.List.{find}
use Rattle.std.proofs.lemmas.Option.{none-some, same_Some}

module _ {X : Type 0} (test : X → Bool) where
  abbrev Passes : List X → X → Type 0
  Passes xs x = (k : ℕ) × (slice_get xs k ≡ Some x) × (test x ≡ true)

  found_if : (y : X) (ys : List X) (x : X) (b : Bool) → test y ≡ b → (find test ys ≡ Some x → Passes ys x) → cond b (Some y) (find test ys) ≡ Some x → Passes (y ∷ ys) x
  found_if y ys x true is later e = (0, e, sym (ap test (same_Some y x e)) ∙ is)
  found_if y ys x false is later e = let r = later e in (suc r.0, r.1, r.2)

  -- what is found stands at a place, and passes
  pub found_at : (xs : List X) (x : X) → find test xs ≡ Some x → Passes xs x
  found_at [] x e = absurd (none-some x e)
  found_at (y ∷ ys) x e = found_if y ys x (test y) refl (found_at ys x) e

  abbrev NonePasses : List X → Type 0
  NonePasses xs = (k : ℕ) (x : X) → slice_get xs k ≡ Some x → test x ≡ false

  none_if : (y : X) (ys : List X) (b : Bool) → test y ≡ b → (find test ys ≡ None → NonePasses ys) → cond b (Some y) (find test ys) ≡ None → NonePasses (y ∷ ys)
  none_if y ys true is later e k x at = absurd (none-some y (sym e))
  none_if y ys false is later e zero x at = ap test (sym (same_Some y x at)) ∙ is
  none_if y ys false is later e (suc k) x at = later e k x at

  -- where none is found, none passes
  pub none_found : (xs : List X) → find test xs ≡ None → NonePasses xs
  none_found [] e k x at = absurd (none-some x at)
  none_found (y ∷ ys) e k x at = none_if y ys (test y) refl (none_found ys) e k x at

-- what stands in a list under a map comes of what stands there
pub mapped_at : {A B : Type 0} (f : A → B) (xs : List A) (i : ℕ) (b : B) → slice_get (map f xs) i ≡ Some b → (a : A) × (slice_get xs i ≡ Some a) × (f a ≡ b)
mapped_at f [] i b e = absurd (none-some b e)
mapped_at f (x ∷ xs) zero b e = (x, refl, same_Some (f x) b e)
mapped_at f (x ∷ xs) (suc i) b e = mapped_at f xs i b e

pub mapped : {A B : Type 0} (f : A → B) (xs : List A) (i : ℕ) (a : A) → slice_get xs i ≡ Some a → slice_get (map f xs) i ≡ Some (f a)
mapped f [] i a e = absurd (none-some a e)
mapped f (x ∷ xs) zero a e = ap (λ y. Some (f y)) (same_Some x a e)
mapped f (x ∷ xs) (suc i) a e = mapped f xs i a e

pub there_within : {A : Type 0} (xs : List A) (i : ℕ) → i < length xs → (a : A) × (slice_get xs i ≡ Some a)
there_within [] i lt = absurd (omega (arith, lt))
there_within (x ∷ xs) zero lt = (x, refl)
there_within (x ∷ xs) (suc i) lt = there_within xs i (omega (arith, lt))

-- a path is not empty behind a name, and has one last name
pub snoc_empty : {A : Type 0} (path : List A) (name : A) → [] ≡ path ++ name ∷ [] → ⊥
snoc_empty [] name e = absurd (cc e)
snoc_empty (x ∷ path) name e = absurd (cc e)

pub snoc_same : {A : Type 0} (path path' : List A) (name name' : A) → path ++ name ∷ [] ≡ path' ++ name' ∷ [] → (path ≡ path') × (name ≡ name')
snoc_same [] [] name name' e = let same : name ≡ name' = cc e in (refl, same)
snoc_same [] (y ∷ path') name name' e = let none : [] ≡ path' ++ name' ∷ [] = cc e in absurd (snoc_empty path' name' none)
snoc_same (x ∷ path) [] name name' e = let none : path ++ name ∷ [] ≡ [] = cc e in absurd (snoc_empty path name (sym none))
snoc_same (x ∷ path) (y ∷ path') name name' e =
    let first : x ≡ y = cc e in
    let others : path ++ name ∷ [] ≡ path' ++ name' ∷ [] = cc e in
    let r = snoc_same path path' name name' others in
    (ap (λ z. z ∷ path) first ∙ ap (λ p. y ∷ p) r.0, r.1)

-- what stands in a part of a list stands in the list
part_of : {A : Type 0} (n : ℕ) (xs : List A) (i : ℕ) (a : A) → slice_get (take n xs) i ≡ Some a → slice_get xs i ≡ Some a
part_of zero xs i a e = absurd (none-some a e)
part_of (suc n) [] i a e = e
part_of (suc n) (x ∷ xs) zero a e = e
part_of (suc n) (x ∷ xs) (suc i) a e = part_of n xs i a e

rest_of : {A : Type 0} (n : ℕ) (xs : List A) (i : ℕ) (a : A) → slice_get (drop n xs) i ≡ Some a → slice_get xs (n + i) ≡ Some a
rest_of zero xs i a e = let same : 0 + i ≡ i = omega arith in ap (slice_get xs) same ∙ e
rest_of (suc n) [] i a e = absurd (none-some a e)
rest_of (suc n) (x ∷ xs) i a e = let same : suc n + i ≡ suc (n + i) = omega arith in ap (slice_get (x ∷ xs)) same ∙ rest_of n xs i a e

pub part_at : {A : Type 0} (first many : ℕ) (xs : List A) (i : ℕ) (a : A) → slice_get (take many (drop first xs)) i ≡ Some a → slice_get xs (first + i) ≡ Some a
part_at first many xs i a e = rest_of first xs i a (part_of many (drop first xs) i a e)
