-- Names among others, by their bytes.
use Rattle.std.proofs.Common.{◌≡◌, ℕ, Bool, true, false, ◌||◌, List, [], ◌∷◌, refl}
use Rattle.std.specs.Prelude.{Contains}
use Rattle.std.specs.List.{AllByRecursion, list_any}
use Rattle.std.specs.Str.{bytes_eq}
use Rattle.std.proofs.lemmas.Slice.Eq.{bytes_eq-Decides}
use Rattle.laws_agreement.proofs.Agreement.Lists.{all_more, of_contained}

pub same_bytes : (xs : List ℕ) → bytes_eq xs xs ≡ true
same_bytes xs = (bytes_eq-Decides xs xs).1 refl

any_more : (x y : List ℕ) (xs : List (List ℕ)) → list_any (λ z. bytes_eq z y) xs ≡ true → list_any (λ z. bytes_eq z y) (x ∷ xs) ≡ true
any_more x y xs h = by_test (bytes_eq x y) refl
  where
    by_test : (b : Bool) → bytes_eq x y ≡ b → bytes_eq x y || list_any (λ z. bytes_eq z y) xs ≡ true
    by_test true e = rw e refl
    by_test false e = rw e h

all_any : (xs : List (List ℕ)) → AllByRecursion (λ y. list_any (λ z. bytes_eq z y) xs ≡ true) xs
all_any [] = tt
all_any (x ∷ xs) = (rw (same_bytes x) refl, all_more _ _ (λ y h. any_more x y xs h) xs (all_any xs))

-- an element is found by its bytes
pub contains_any : (xs : List (List ℕ)) (x : List ℕ) → Contains xs x → list_any (λ z. bytes_eq z x) xs ≡ true
contains_any xs x c = of_contained (λ y. list_any (λ z. bytes_eq z y) xs ≡ true) xs x (all_any xs) c
