-- Texts of items in a row: those before the last one, each with a comma after it.
use Rattle.std.proofs.Common.{◌≡◌, ℕ, ◌<◌, List, [], ◌∷◌, ◌++◌, length, take, map, refl, arith, append-nil, append_assoc, codes, ◌≤◌, Bool, true, false, sym, ◌∙◌, zero, suc}
use Rattle.std.proofs.Math.Dec.{eqb}
use Rattle.std.proofs.lemmas.List.{take_all, length-map, map-append}
use Rattle.std.specs.List.{flat_map}
use Rattle.just_value.specs.Lists.{many, list_text}

abbrev pub with_comma : List ℕ → List ℕ
with_comma text = text ++ codes ", "

-- the texts with commas, and then the last one
pub many_is : (conjunction last : List ℕ) (texts : List (List ℕ)) → many conjunction (texts ++ last ∷ []) ≡ flat_map with_comma texts ++ (conjunction ++ (codes " " ++ last))
many_is conjunction last [] = refl
many_is conjunction last (text ∷ []) = simp (append-nil, append_assoc)
many_is conjunction last (text ∷ other ∷ others) = rw (many_is conjunction last (other ∷ others)) (simp append_assoc)

-- at least two, and the last one
pub row_is : (conjunction last : List ℕ) (texts : List (List ℕ)) → 1 < length texts → list_text conjunction (texts ++ last ∷ []) ≡ flat_map with_comma texts ++ (conjunction ++ (codes " " ++ last))
row_is conjunction last [] more = absurd (omega (arith, more))
row_is conjunction last (a ∷ []) more = absurd (omega (arith, more))
row_is conjunction last (a ∷ b ∷ []) more = many_is conjunction last (a ∷ b ∷ [])
row_is conjunction last (a ∷ b ∷ c ∷ others) more = many_is conjunction last (a ∷ b ∷ c ∷ others)

-- the items before the last one, and the last
pub row_of : {T : Type 0} (f : T → List ℕ) (conjunction : List ℕ) (items others : List T) (last : T) (i : ℕ) → items ≡ others ++ last ∷ [] → length others ≤ i → 1 < length others
    → flat_map with_comma (map f (take i others)) ++ (conjunction ++ (codes " " ++ f last)) ≡ list_text conjunction (map f items)
row_of f conjunction items others last i is all more =
    let long : 1 < length (map f others) = rw (length-map others f) more in
    rw (is, take_all i others all, map-append f others (last ∷ []), row_is conjunction (f last) (map f others) long) refl

-- there is something
pub some_there : (empty : Bool) (n : ℕ) → empty ≡ eqb n 0 → empty ≡ false → 0 < n
some_there empty zero is no_items = absurd (let e : true ≡ false = sym is ∙ no_items in cc)
some_there empty (suc n) is no_items = omega arith
