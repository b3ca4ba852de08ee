-- Lists under functions, by their places.
use Rattle.std.proofs.Common.{◌≡◌, ◌⊎◌, inl, inr, ◌∙◌, ap, List, [], ◌∷◌, ℕ, suc, Option, Some, None, refl, arith, length, map}
use Rattle.std.specs.Prelude.{slice_get, Contains}
use Rattle.std.specs.List.{cons_option, filter_map}
use Rattle.meaning_rules.proofs.Worlds.Places.{contains_cases, contains_first, contains_later, contains_none}

module _ {X Y : Type 0} where
  -- a list under a function is the list that has at each place what the function gives there
  pub map_is : (f : X → Y) (ys : List Y) (xs : List X) → length ys ≡ length xs → ((n : ℕ) (y : Y) (x : X) → slice_get ys n ≡ Some y → slice_get xs n ≡ Some x → f x ≡ y) → map f xs ≡ ys
  map_is f [] [] many each = refl
  map_is f [] (x ∷ xs) many each = absurd (omega (arith, many))
  map_is f (y ∷ ys) [] many each = absurd (omega (arith, many))
  map_is f (y ∷ ys) (x ∷ xs) many each =
      ap (λ z. z ∷ map f xs) (each 0 y x refl refl) ∙ ap (λ zs. y ∷ zs) (map_is f ys xs (omega (arith, many)) (λ n. each (suc n)))

module _ {X Y Z : Type 0} where
  -- the same where the function gives something at each place, of which another is taken
  pub given_is : (h : X → Option Y) (f : Y → Z) (zs : List Z) (xs : List X) → length zs ≡ length xs
      → ((n : ℕ) (z : Z) (x : X) → slice_get zs n ≡ Some z → slice_get xs n ≡ Some x → (y : Y) × (h x ≡ Some y) × (f y ≡ z)) → map f (filter_map h xs) ≡ zs
  given_is h f [] [] many each = refl
  given_is h f [] (x ∷ xs) many each = absurd (omega (arith, many))
  given_is h f (z ∷ zs) [] many each = absurd (omega (arith, many))
  given_is h f (z ∷ zs) (x ∷ xs) many each =
      let g = each 0 z x refl refl in
      ap (λ o. map f (cons_option o (filter_map h xs))) g.1 ∙ ap (λ v. v ∷ map f (filter_map h xs)) g.2 ∙ ap (λ vs. z ∷ vs) (given_is h f zs xs (omega (arith, many)) (λ n. each (suc n)))

module _ {Y : Type 0} where
  put_first : (o : Option Y) (y : Y) (ys : List Y) → o ≡ Some y → Contains (cons_option o ys) y
  put_first o y ys e = rw e (contains_first y ys)

  put_before : (o : Option Y) (y : Y) (ys : List Y) → Contains ys y → Contains (cons_option o ys) y
  put_before None y ys c = c
  put_before (Some z) y ys c = contains_later z ys y c

  put_cases : (o : Option Y) (y : Y) (ys : List Y) → Contains (cons_option o ys) y → (o ≡ Some y) ⊎ Contains ys y
  put_cases None y ys c = inr c
  put_cases (Some z) y ys c = elim (contains_cases z ys y c) [
    | inl e ↦ inl (ap (λ x. Some x) e)
    | inr d ↦ inr d
  ]

module _ {X Y : Type 0} where
  -- what a function gives of an element is among what it gives of the list
  pub given_there : (h : X → Option Y) (xs : List X) (x : X) (y : Y) → Contains xs x → h x ≡ Some y → Contains (filter_map h xs) y
  given_there h [] x y c e = absurd (contains_none [] x refl c)
  given_there h (z ∷ zs) x y c e = elim (contains_cases z zs x c) [
    | inl is ↦ put_first (h z) y (filter_map h zs) (ap h is ∙ e)
    | inr d ↦ put_before (h z) y (filter_map h zs) (given_there h zs x y d e)
  ]

  -- and what is there comes of an element
  pub given_back : (h : X → Option Y) (xs : List X) (y : Y) → Contains (filter_map h xs) y → (x : X) × Contains xs x × (h x ≡ Some y)
  given_back h [] y c = absurd (contains_none [] y refl c)
  given_back h (x ∷ xs) y c = elim (put_cases (h x) y (filter_map h xs) c) [
    | inl e ↦ (x, contains_first x xs, e)
    | inr d ↦ let r = given_back h xs y d in (r.0, contains_later x xs r.0 r.1, r.2)
  ]
