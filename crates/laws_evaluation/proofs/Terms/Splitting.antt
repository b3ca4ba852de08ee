-- Two lists in two parts each, where the first parts have one length.
use Rattle.std.proofs.Common.{◌≡◌, List, [], ◌∷◌, ◌++◌, length, map, refl, arith}
use Rattle.std.proofs.lemmas.List.{length-append, map-append}

-- they have one length, where the second parts have
pub lengths : {A : Type 0} (a b c d : List A) → length a ≡ length c → length b ≡ length d → length (a ++ b) ≡ length (c ++ d)
lengths a b c d first second = omega (arith, length-append a b, length-append c d, first, second)

-- where they are equal, their parts are
pub split : {A : Type 0} (a b c d : List A) → length a ≡ length c → a ++ b ≡ c ++ d → (a ≡ c) × (b ≡ d)
split [] b [] d same h = (refl, h)
split [] b (y ∷ c) d same h = absurd (omega arith)
split (x ∷ a) b [] d same h = absurd (omega arith)
split (x ∷ a) b (y ∷ c) d same h =
    let head : x ≡ y = cc in
    let tail : a ++ b ≡ c ++ d = cc in
    let parts = split a b c d (omega arith) tail in
    let first = parts.0 in
    (cc, parts.1)

-- the same of a list and of the values of another
pub map_lengths : {A B : Type 0} (f : B → A) (a b : List A) (c d : List B) → length a ≡ length (map f c) → length b ≡ length (map f d) → length (a ++ b) ≡ length (map f (c ++ d))
map_lengths f a b c d first second = rw map-append (lengths a b (map f c) (map f d) first second)

pub map_split : {A B : Type 0} (f : B → A) (a b : List A) (c d : List B) → length a ≡ length (map f c) → a ++ b ≡ map f (c ++ d) → (a ≡ map f c) × (b ≡ map f d)
map_split f a b c d same h = split a b (map f c) (map f d) same (rw map-append at h)
