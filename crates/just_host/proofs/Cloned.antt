-- Lists whose elements are equal are equal.
use Rattle.std.proofs.Common.{List, ◌≡◌, ◌∷◌, [], refl}
use Rattle.std.specs.List.{AllZip}

pub same_elements : {X : Type 0} (xs ys : List X) → AllZip (λ s t. t ≡ s) xs ys → ys ≡ xs
same_elements [] [] h = refl
same_elements (x ∷ xs) (y ∷ ys) h = let e : ys ≡ xs = same_elements xs ys h.1 in cc (h.0, e)
same_elements [] (y ∷ ys) h = absurd h
same_elements (x ∷ xs) [] h = absurd h
