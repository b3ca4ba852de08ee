-- Texts of the elements of a list, one after another.
use Rattle.std.proofs.Common.{◌≡◌, ℕ, ◌+◌, ◌<◌, List, [], ◌∷◌, ◌++◌, length, get_or, take, map, refl, append-nil, append_assoc}
use Rattle.std.proofs.lemmas.List.{take_more}
use Rattle.std.specs.List.{flat_map}

-- the text of a list and one more element
texts_push : {A B : Type 0} (view : A → B) (text : B → List ℕ) (xs : List A) (x : A)
    → flat_map text (map view (xs ++ x ∷ [])) ≡ flat_map text (map view xs) ++ text (view x)
texts_push view text [] x = append-nil (text (view x))
texts_push view text (y ∷ xs) x = rw (texts_push view text xs x, append_assoc (text (view y)) (flat_map text (map view xs)) (text (view x))) refl

-- the texts of the elements up to a place, and of the one there
pub texts_next : {A B : Type 0} (view : A → B) (text : B → List ℕ) (xs : List A) (i : ℕ) (x : A) → i < length xs → x ≡ get_or xs i x
    → flat_map text (map view (take i xs)) ++ text (view x) ≡ flat_map text (map view (take (i + 1) xs))
texts_next view text xs i x lt is =
    let e : take (i + 1) xs ≡ take i xs ++ x ∷ [] = rw (take_more xs i x lt, ← is) refl in
    rw (e, texts_push view text (take i xs) x) refl
