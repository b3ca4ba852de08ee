-- The indentation that lines share, by what it has to be.
use Rattle.std.specs.Prelude.{◌≡◌, ℕ, ◌<◌, ◌≤◌, Bool, true, false, not, ◌==◌, ◌⊎◌, List, [], ◌∷◌, ◌++◌, length, Some, None}
use Rattle.std.specs.List.{list_all, flat_map, AllByRecursion}
use Rattle.tree_expressions.specs.Indentation.{is_indent, is_blank, indentation, lines_of}

-- the line begins with this run
abbrev pub Begins : List ℕ → List ℕ → Type 0
Begins run line = (rest : List ℕ) × (line ≡ run ++ rest)

-- spaces and tabs with which each of these lines begins that isn't blank
pub record IsCommon (run : List ℕ) (lines : List (List ℕ)) : Type 0 where
  pub white : list_all is_indent run ≡ true
  pub begins : AllByRecursion (λ line. is_blank line ≡ false → Begins run line) lines

-- where lines have an indentation, it is common to them, and no other such run is longer
abbrev pub TheLongestIsTaken : Type 0
TheLongestIsTaken = (lines : List (List ℕ)) (run : List ℕ) → indentation lines ≡ Some run → IsCommon run lines × ((other : List ℕ) → IsCommon other lines → length other ≤ length run)

-- where they have none, all are blank
abbrev pub OnlyBlankLinesHaveNone : Type 0
OnlyBlankLinesHaveNone = (lines : List (List ℕ)) → indentation lines ≡ None → AllByRecursion (λ line. is_blank line ≡ true) lines

-- a text without a newline
abbrev pub is_unbroken : List ℕ → Bool
is_unbroken line = list_all (λ b. not (b == 10)) line

-- the line ends with its one newline
pub record IsEnded (line : List ℕ) : Type 0 where
  pub front : List ℕ
  pub whole : line ≡ front ++ 10 ∷ []
  pub unbroken : is_unbroken front ≡ true

-- each line is ended; the last may lack its newline, but isn't empty
abbrev pub AreLines : List (List ℕ) → Type 0
AreLines [] = Unit {0}
AreLines (line ∷ []) = IsEnded line ⊎ ((0 < length line) × (is_unbroken line ≡ true))
AreLines (line ∷ next ∷ lines) = IsEnded line × AreLines (next ∷ lines)

-- a text is cut into such lines, and they are the text
abbrev pub TextsAreCut : Type 0
TextsAreCut = (text : List ℕ) → AreLines (lines_of text) × (flat_map (λ line. line) (lines_of text) ≡ text)
