-- Indentations of bodies.
use Rattle.std.specs.Prelude.{ℕ, Bool, List, [], ◌∷◌, map, replicate, codes, bytes_eq}
use Rattle.std.specs.List.{list_any}

abbrev pub spaces : ℕ → List ℕ
spaces n = replicate n 32

-- one tab, or one to eight spaces
abbrev pub indentations : List (List ℕ)
indentations = codes "\t" ∷ map spaces (1 ∷ 2 ∷ 3 ∷ 4 ∷ 5 ∷ 6 ∷ 7 ∷ 8 ∷ [])

-- a text is one of these
abbrev pub is_indentation : List ℕ → Bool
is_indentation text = list_any (bytes_eq text) indentations
