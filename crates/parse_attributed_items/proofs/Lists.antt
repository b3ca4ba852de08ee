-- Elements of lists, and names that are equal.
use Rattle.std.proofs.Common.{◌≡◌, ℕ, suc, ◌+◌, ◌<◌, true, List, [], ◌∷◌, ◌++◌, length, map, drop, get_or, refl, sym, ap, subst, add-one, arith, drop-cons}
use Rattle.std.specs.List.{All}
use Rattle.std.specs.Str.{bytes_eq}
use Rattle.std.proofs.lemmas.Slice.Eq.{bytes_eq-Decides}

-- what is left of a list is its next element and the others
pub next_left : {X Y : Type 0} (f : X → Y) (xs : List X) (i : ℕ) (x : X) → i < length xs → x ≡ get_or xs i x → map f (drop i xs) ≡ f x ∷ map f (drop (i + 1) xs)
next_left f xs i x less is = let e : drop i xs ≡ get_or xs i x ∷ drop (suc i) xs = drop-cons xs i x less in rw (e, add-one) (ap (λ y. f y ∷ map f (drop (suc i) xs)) (sym is))

-- what holds of each element holds of the next one
pub of_next : {X : Type 0} (P : X → Type 0) (xs : List X) (i : ℕ) (x : X) → i < length xs → x ≡ get_or xs i x → All P xs → P x
of_next P xs i x less is all = subst P (sym is) (all i x less)

-- what holds of each element holds of one in the middle
pub of_middle : {X : Type 0} (P : X → Type 0) (xs : List X) (x : X) (ys : List X) → All P (xs ++ x ∷ ys) → P x
of_middle P [] x ys all = all 0 x (omega arith)
of_middle P (y ∷ xs) x ys all = of_middle P xs x ys (λ k d less. all (suc k) d (omega arith))

-- the last of some elements may be the first of those after them
pub one_behind : {X : Type 0} (xs ys : List X) (x : X) → (xs ++ x ∷ []) ++ ys ≡ xs ++ x ∷ ys
one_behind [] ys x = refl
one_behind (y ∷ xs) ys x = ap (λ zs. y ∷ zs) (one_behind xs ys x)

-- which of two texts comes first does not matter
pub either_way : (x y : List ℕ) → bytes_eq x y ≡ bytes_eq y x
either_way x y = grind (arith, bytes_eq-Decides x y, bytes_eq-Decides y x)
