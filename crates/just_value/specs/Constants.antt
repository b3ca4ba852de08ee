-- The constants that each justfile knows.
use Rattle.std.specs.Prelude.{ℕ, List, [], ◌∷◌, ◌++◌, codes}
use Rattle.std.specs.Borrow.{Bor}

-- a name and a text, without where they lie
abbrev pub row_of : Bor (List ℕ) × Bor (List ℕ) → List ℕ × List ℕ
row_of row = (row.0.now, row.1.now)

-- a sequence that a terminal takes for a style
abbrev pub style : List ℕ → List ℕ
style number = 27 ∷ (codes "[" ++ (number ++ codes "m"))

-- names and texts in the order of their numbers
abbrev pub constant_rows : List (List ℕ × List ℕ)
constant_rows =
    (codes "HEX", codes "0123456789abcdef")
    ∷ (codes "HEXLOWER", codes "0123456789abcdef")
    ∷ (codes "HEXUPPER", codes "0123456789ABCDEF")
    ∷ (codes "PATH_SEP", codes "/")
    ∷ (codes "PATH_VAR_SEP", codes ":")
    ∷ (codes "CLEAR", 27 ∷ codes "c")
    ∷ (codes "NORMAL", style (codes "0"))
    ∷ (codes "BOLD", style (codes "1"))
    ∷ (codes "ITALIC", style (codes "3"))
    ∷ (codes "UNDERLINE", style (codes "4"))
    ∷ (codes "INVERT", style (codes "7"))
    ∷ (codes "HIDE", style (codes "8"))
    ∷ (codes "STRIKETHROUGH", style (codes "9"))
    ∷ (codes "BLACK", style (codes "30"))
    ∷ (codes "RED", style (codes "31"))
    ∷ (codes "GREEN", style (codes "32"))
    ∷ (codes "YELLOW", style (codes "33"))
    ∷ (codes "BLUE", style (codes "34"))
    ∷ (codes "MAGENTA", style (codes "35"))
    ∷ (codes "CYAN", style (codes "36"))
    ∷ (codes "WHITE", style (codes "37"))
    ∷ (codes "BG_BLACK", style (codes "40"))
    ∷ (codes "BG_RED", style (codes "41"))
    ∷ (codes "BG_GREEN", style (codes "42"))
    ∷ (codes "BG_YELLOW", style (codes "43"))
    ∷ (codes "BG_BLUE", style (codes "44"))
    ∷ (codes "BG_MAGENTA", style (codes "45"))
    ∷ (codes "BG_CYAN", style (codes "46"))
    ∷ (codes "BG_WHITE", style (codes "47"))
    ∷ []
