-- A row from a place on, after what may take an `else`.
use Rattle.std.proofs.Common.{◌≡◌, ℕ, ◌+◌, ◌<◌, ◌≤◌, Bool, true, false, List, ◌∷◌, length, get_or, drop, map, refl, sym, ap, ◌∙◌, add-one, drop-cons, arith}
use Rattle.std.proofs.lemmas.List.{drop_all, get_or-map, length-map}
use Rattle.std.proofs.lemmas.List.Folds.{list_all_at, list_any_at}
use Rattle.std.specs.List.{list_all, list_any}
use Rattle.std.specs.Prelude.{◌&&◌, ◌||◌, not}
use Rattle.tree_items.specs.Printable.{first_is, are_apart}

at_place : {A : Type 0} (xs : List A) (i : ℕ) (x : A) → i < length xs → x ≡ get_or xs i x → drop i xs ≡ x ∷ drop (i + 1) xs
at_place xs i x lt is = rw (add-one, drop-cons xs i x lt, ← is) refl

module _ {A B : Type 0} (takes begins : B → Bool) (shape : A → B) where
  -- the row after one that takes an `else`, or takes none
  abbrev pub behind : Bool → List A → Bool
  behind b xs = (not b || not (first_is begins (map shape xs))) && are_apart takes begins (map shape xs)

  step : (b : Bool) (x : A) (xs : List A) → (b && begins (shape x)) ≡ false → behind b (x ∷ xs) ≡ behind (takes (shape x)) xs
  step true x xs free = rw free refl
  step false x xs free = refl

  pub goes_on : (b : Bool) (xs : List A) (i : ℕ) (x : A) → i < length xs → x ≡ get_or xs i x → (b && begins (shape x)) ≡ false
      → behind (takes (shape x)) (drop (i + 1) xs) ≡ behind b (drop i xs)
  goes_on b xs i x lt is free = rw (at_place xs i x lt is) (sym (step b x (drop (i + 1) xs) free))

  pub is_taken : (b : Bool) (xs : List A) (i : ℕ) (x : A) → i < length xs → x ≡ get_or xs i x → b ≡ true → begins (shape x) ≡ true → behind b (drop i xs) ≡ false
  is_taken b xs i x lt is would begins_so = rw (at_place xs i x lt is, would, begins_so) refl

  pub at_end : (b : Bool) (xs : List A) (i : ℕ) → length xs ≤ i → behind b (drop i xs) ≡ true
  at_end true xs i le = rw (drop_all i xs le) refl
  at_end false xs i le = rw (drop_all i xs le) refl

-- one element settles the answer of a row of shapes
module _ {A B : Type 0} (test : B → Bool) (shape : A → B) (xs : List A) (i : ℕ) (x : A) (lt : i < length xs) (is : x ≡ get_or xs i x) where
  there : i < length (map shape xs)
  there = omega (arith, lt, length-map xs shape)

  at_shape : (b : Bool) → test (shape x) ≡ b → test (get_or (map shape xs) i (shape x)) ≡ b
  at_shape b so = ap test (get_or-map shape xs i x (shape x) lt) ∙ ap (λ y. test (shape y)) (sym is) ∙ so

  pub one_does : test (shape x) ≡ true → list_any test (map shape xs) ≡ true
  one_does so = list_any_at test (map shape xs) i (shape x) there (at_shape true so)

  pub one_does_not : test (shape x) ≡ false → list_all test (map shape xs) ≡ false
  one_does_not so = list_all_at test (map shape xs) i (shape x) there (at_shape false so)

  pub passes_any : test (shape x) ≡ false → list_any test (map shape (drop (i + 1) xs)) ≡ list_any test (map shape (drop i xs))
  passes_any so = rw (at_place xs i x lt is, so) refl

  pub passes_all : test (shape x) ≡ true → list_all test (map shape (drop (i + 1) xs)) ≡ list_all test (map shape (drop i xs))
  passes_all so = rw (at_place xs i x lt is, so) refl

module _ {A B : Type 0} (test : B → Bool) (shape : A → B) (xs : List A) (i : ℕ) (le : length xs ≤ i) where
  pub no_more_any : list_any test (map shape (drop i xs)) ≡ false
  no_more_any = rw (drop_all i xs le) refl

  pub no_more_all : list_all test (map shape (drop i xs)) ≡ true
  no_more_all = rw (drop_all i xs le) refl
