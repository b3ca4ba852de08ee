-- Texts in a row, as sentences have them.
use Rattle.std.specs.Prelude.{◌≡◌, ◌<◌, ℕ, List, [], ◌∷◌, ◌++◌, length, codes}
use Rattle.std.specs.List.{flat_map}

-- a text with a mark on both sides
abbrev pub enclosed : List ℕ → List ℕ → List ℕ
enclosed mark text = mark ++ (text ++ mark)

-- three or more: a comma after each but the last, and the conjunction before the last
abbrev pub many : List ℕ → List (List ℕ) → List ℕ
many conjunction [] = []
many conjunction (last ∷ []) = conjunction ++ (codes " " ++ last)
many conjunction (text ∷ other ∷ others) = text ++ (codes ", " ++ many conjunction (other ∷ others))

-- nothing for no text, one alone, and two with the conjunction between
abbrev pub list_text : List ℕ → List (List ℕ) → List ℕ
list_text conjunction [] = []
list_text conjunction (text ∷ []) = text
list_text conjunction (text ∷ other ∷ []) = text ++ (codes " " ++ (conjunction ++ (codes " " ++ other)))
list_text conjunction (text ∷ other ∷ another ∷ others) = many conjunction (text ∷ other ∷ another ∷ others)

-- three or more are texts with a comma after each, the conjunction and the last
abbrev pub PutInARow : Type 0
PutInARow = (conjunction last : List ℕ) (texts : List (List ℕ)) → 1 < length texts → list_text conjunction (texts ++ last ∷ []) ≡ flat_map (λ text. text ++ codes ", ") texts ++ (conjunction ++ (codes " " ++ last))
