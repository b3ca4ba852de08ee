-- The numbers of names: each name of the first part of a row has a number below that part's length.
use Rattle.std.proofs.Common.{◌≡◌, ◌<◌, ◌≤◌, ℕ, suc, ◌+◌, nat_lt, List, [], ◌∷◌, ◌++◌, length, Bool, true, false, Some, ◌⊎◌, inl, inr, ⊎_elim, refl, sym, ◌∙◌, arith, length-append}
use Rattle.std.proofs.lemmas.Bool.Decides.{nat_tests}
use Rattle.std.proofs.lemmas.Slice.Eq.{bytes_eq-Decides}
use Rattle.std.specs.List.{list_any, position_or_len}
use Rattle.std.specs.Str.{bytes_eq}
use Rattle.meaning_dialogues.specs.Written.{numbered, numbers_from}
use Rattle.meaning_evaluation.proofs.Stages.Depth.{IsIn}

same_bool : (b c : Bool) → (b ≡ true → c ≡ true) → (c ≡ true → b ≡ true) → b ≡ c
same_bool true c f g = sym (f refl)
same_bool false true f g = g refl
same_bool false false f g = refl

pub bytes_symmetric : (a b : List ℕ) → bytes_eq a b ≡ bytes_eq b a
bytes_symmetric a b =
    same_bool (bytes_eq a b) (bytes_eq b a) (λ e. (bytes_eq-Decides b a).1 (sym ((bytes_eq-Decides a b).0 e))) (λ e. (bytes_eq-Decides a b).1 (sym ((bytes_eq-Decides b a).0 e)))

-- in the first part no element passes the test, or the first that passes stands there
pub stands_before : {X : Type 0} (p : X → Bool) (xs ys : List X) → (list_any p xs ≡ false) ⊎ (position_or_len p (xs ++ ys) < length xs)
stands_before p [] ys = inl refl
stands_before p (x ∷ xs) ys = by_test (p x) refl (stands_before p xs ys)
  where
    by_test : (b : Bool) → p x ≡ b → (list_any p xs ≡ false) ⊎ (position_or_len p (xs ++ ys) < length xs) → (list_any p (x ∷ xs) ≡ false) ⊎ (position_or_len p (x ∷ (xs ++ ys)) < suc (length xs))
    by_test true e r = inr (rw e (omega arith))
    by_test false e r = ⊎_elim (λ h. inl (rw e h)) (λ h. inr (rw e (omega (arith, h)))) r

-- a name has a number below the length of the first part, or is none of its names
pub data StandsBefore (name : List ℕ) (earlier more : List (List ℕ)) : Type 0 where
  before : (k : ℕ) → k < length earlier → numbered (earlier ++ more) name ≡ Some k → StandsBefore name earlier more
  nowhere : list_any (λ other. bytes_eq other name) earlier ≡ false → StandsBefore name earlier more

same_any : (name : List ℕ) (xs : List (List ℕ)) → list_any (λ other. bytes_eq other name) xs ≡ list_any (bytes_eq name) xs
same_any name [] = refl
same_any name (x ∷ xs) = rw (bytes_symmetric x name, same_any name xs) refl

pub numbered_before : (name : List ℕ) (earlier more : List (List ℕ)) → StandsBefore name earlier more
numbered_before name earlier more =
    ⊎_elim
    (λ h. nowhere (same_any name earlier ∙ h))
    (λ h. let k = position_or_len (bytes_eq name) (earlier ++ more) in
    let lt : k < length (earlier ++ more) = omega (arith, h, length-append earlier more) in
    let b : nat_lt k (length (earlier ++ more)) ≡ true = grind (arith, nat_tests, lt) in
    before k h (rw b refl))
    (stands_before (bytes_eq name) earlier more)

pub is_in_numbers : {A : Type 0} (xs : List A) (n k : ℕ) → n ≤ k → k < n + length xs → IsIn k (numbers_from n xs)
is_in_numbers [] n k h g = absurd (omega (arith, h, g))
is_in_numbers (x ∷ xs) n k h g = by_first (nat_lt n k) refl (λ i j. is_in_numbers xs (n + 1) k i j)
  where
    by_first : (b : Bool) → nat_lt n k ≡ b → (n + 1 ≤ k → k < n + 1 + length xs → IsIn k (numbers_from (n + 1) xs)) → IsIn k (n ∷ numbers_from (n + 1) xs)
    by_first true e go = let lt : n < k = grind (arith, nat_tests, e) in inr (go (omega (arith, lt)) (omega (arith, g)))
    by_first false e go = let ge : n < k → ⊥ = λ lt. let t : nat_lt n k ≡ true = grind (arith, nat_tests, lt) in cc in inl (omega (arith, ge, h))
