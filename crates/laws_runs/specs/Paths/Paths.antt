-- Paths of modules as one word.
use Rattle.std.specs.Prelude.{◌≡◌, ℕ, true, List, ◌∷◌, Some}
use Rattle.std.specs.List.{list_all}
use Rattle.just_text.specs.Names.{joined_names}
use Rattle.modules_compilation.specs.Modulepaths.{is_name, path_of_word}

-- names with `::` between them are one word for the path of these names
abbrev pub PathsAreReadBack : Type 0
PathsAreReadBack = (name : List ℕ) (names : List (List ℕ)) → list_all is_name (name ∷ names) ≡ true → path_of_word (joined_names (name ∷ names)) ≡ Some (name ∷ names)

-- so no two paths are printed alike
abbrev pub PathsAreDistinct : Type 0
PathsAreDistinct = (name other : List ℕ) (names others : List (List ℕ)) → list_all is_name (name ∷ names) ≡ true → list_all is_name (other ∷ others) ≡ true
    → joined_names (name ∷ names) ≡ joined_names (other ∷ others) → (name ∷ names) ≡ (other ∷ others)
