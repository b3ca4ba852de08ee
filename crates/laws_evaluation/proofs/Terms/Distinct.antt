-- Numbers that were handed out one after another differ: so those of a function's parameters differ from those of variables.
use Rattle.std.proofs.Common.{◌≡◌, ◌≢◌, ℕ, zero, suc, ◌+◌, ◌<◌, ◌≤◌, List, [], ◌∷◌, ◌++◌, length, refl, ap₂, subst, arith, inl, inr}
use Rattle.std.specs.List.{Contains, flat_map, slice_index_or}
use Rattle.std.proofs.lemmas.Bool.{cases_lt}
use Rattle.std.proofs.lemmas.List.Elements.{Contains-append_left, Contains-append_right}
use Rattle.parse_recipes.specs.Numbering.{count_from}
use Rattle.laws_evaluation.specs.Terms.Order.{IsInOrder}

-- the number at each place
number_at : (start : ℕ) (xs : List ℕ) → IsInOrder start xs → (k d : ℕ) → k < length xs → slice_index_or xs k d ≡ start + k
number_at start [] h k d lt = absurd (omega arith)
number_at start (x ∷ xs) h zero d lt = let first : x ≡ start = cc in omega (arith, first)
number_at start (x ∷ xs) h (suc k) d lt =
    let others : xs ≡ count_from (start + 1) (length xs) = cc in
    omega (arith, number_at (start + 1) xs others k d (omega arith))

-- numbers in order are at least the first, and less than what follows the last
pub within : (start : ℕ) (xs : List ℕ) → IsInOrder start xs → (n : ℕ) → Contains xs n → (start ≤ n) × (n < start + length xs)
within start xs h n c =
    let at = number_at start xs h c.0 n c.1 in
    let is : n ≡ start + c.0 = omega (arith, at, c.2) in
    (omega (arith, is), omega (arith, is, c.1))

-- where numbers are in order, those of both parts are
pub parts_in_order : (start : ℕ) (xs ys : List ℕ) → IsInOrder start (xs ++ ys) → IsInOrder start xs × IsInOrder (start + length xs) ys
parts_in_order start [] ys h = let same : start ≡ start + 0 = omega arith in (refl, subst (λ (s : ℕ). IsInOrder s ys) same h)
parts_in_order start (x ∷ xs) ys h =
    let first : x ≡ start = cc in
    let others : xs ++ ys ≡ count_from (start + 1) (length (xs ++ ys)) = cc in
    let parts = parts_in_order (start + 1) xs ys others in
    let on : (start + 1) + length xs ≡ start + suc (length xs) = omega arith in
    (ap₂ ◌∷◌ first parts.0, subst (λ (s : ℕ). IsInOrder s ys) on parts.1)

-- where numbers are in order, each of the first part is less than each of the second
pub rises : (start : ℕ) (xs ys : List ℕ) → IsInOrder start (xs ++ ys) → (n m : ℕ) → Contains xs n → Contains ys m → n < m
rises start xs ys h n m c d =
    let parts = parts_in_order start xs ys h in
    omega (arith, (within start xs parts.0 n c).1, (within (start + length xs) ys parts.1 m d).0)

-- The elements of a list that have numbers, as the items of a file: the numbers of all, one element after the other, are in order.
module _ {A : Type 0} (numbers : A → List ℕ) where
  inside_row : (items : List A) (k : ℕ) (d : A) (n : ℕ) → k < length items → Contains (numbers (slice_index_or items k d)) n → Contains (flat_map numbers items) n
  inside_row [] k d n lt c = absurd (omega arith)
  inside_row (x ∷ xs) zero d n lt c = Contains-append_left (numbers x) (flat_map numbers xs) n c
  inside_row (x ∷ xs) (suc k) d n lt c = Contains-append_right (numbers x) (flat_map numbers xs) n (inside_row xs k d n (omega arith) c)

  -- each number of an element is less than each of a later one
  pub items_rise : (start : ℕ) (items : List A) → IsInOrder start (flat_map numbers items) → (i j : ℕ) (d e : A) (n m : ℕ) → i < j → j < length items
      → Contains (numbers (slice_index_or items i d)) n → Contains (numbers (slice_index_or items j e)) m → n < m
  items_rise start [] h i j d e n m lt there c k = absurd (omega arith)
  items_rise start (x ∷ xs) h i zero d e n m lt there c k = absurd (omega arith)
  items_rise start (x ∷ xs) h zero (suc j) d e n m lt there c k = rises start (numbers x) (flat_map numbers xs) h n m c (inside_row xs j e m (omega arith) k)
  items_rise start (x ∷ xs) h (suc i) (suc j) d e n m lt there c k =
      items_rise (start + length (numbers x)) xs (parts_in_order start (numbers x) (flat_map numbers xs) h).1 i j d e n m (omega arith) (omega arith) c k

  -- numbers of two elements differ
  pub items_differ : (start : ℕ) (items : List A) → IsInOrder start (flat_map numbers items) → (i j : ℕ) (d e : A) (n m : ℕ) → i ≢ j → i < length items → j < length items
      → Contains (numbers (slice_index_or items i d)) n → Contains (numbers (slice_index_or items j e)) m → n ≢ m
  items_differ start items h i j d e n m apart here there c k = λ same.
      elim (cases_lt i j) [
        | inl w ↦ omega (arith, same, items_rise start items h i j d e n m w there c k)
        | inr w ↦ elim (cases_lt j i) [
          | inl v ↦ omega (arith, same, items_rise start items h j i e d m n v here k c)
          | inr v ↦ let equal : i ≡ j = omega arith in apart equal
        ]
      ]
