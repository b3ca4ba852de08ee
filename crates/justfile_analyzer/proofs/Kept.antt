-- What `filter_map` keeps of the elements up to a place.
use Rattle.std.proofs.Common.{◌≡◌, ℕ, ◌+◌, ◌<◌, List, [], ◌∷◌, ◌++◌, length, get_or, take, map, filter_map, Option, Some, None, refl, ap, ◌∙◌, append-nil}
use Rattle.std.proofs.lemmas.List.{take_more, map-append}
use Rattle.std.proofs.lemmas.List.Elements.{filter_map-append}
use Rattle.std.specs.List.{cons_option}

-- those up to a place and at it
next : {X Y : Type 0} (f : X → Option Y) (xs : List X) (i : ℕ) (d : X) → i < length xs → filter_map f (take (i + 1) xs) ≡ filter_map f (take i xs) ++ cons_option (f (get_or xs i d)) []
next f xs i d lt =
    let e : take (i + 1) xs ≡ take i xs ++ get_or xs i d ∷ [] = take_more xs i d lt in
    ap (filter_map f) e ∙ filter_map-append f (take i xs) (get_or xs i d ∷ [])

-- what is kept at the place is one more
pub kept : {X Y Z : Type 0} (f : X → Option Y) (view : Z → Y) (xs : List X) (i : ℕ) (d : X) (z : Z) (done : List Z) → i < length xs
    → Some (view z) ≡ f (get_or xs i d) → map view done ≡ filter_map f (take i xs) → map view (done ++ z ∷ []) ≡ filter_map f (take (i + 1) xs)
kept f view xs i d z done lt found more = map-append view done (z ∷ []) ∙ rw (next f xs i d lt, ← found, more) refl

-- what is passed over adds none
pub passed : {X Y Z : Type 0} (f : X → Option Y) (view : Z → Y) (xs : List X) (i : ℕ) (d : X) (done : List Z) → i < length xs
    → None ≡ f (get_or xs i d) → map view done ≡ filter_map f (take i xs) → map view done ≡ filter_map f (take (i + 1) xs)
passed f view xs i d done lt absent more = rw (next f xs i d lt, ← absent, append-nil) more
