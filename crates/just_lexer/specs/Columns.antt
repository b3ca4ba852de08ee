-- How a text is shown, with four spaces for each tab, and how wide it is then.
use Rattle.std.specs.Prelude.{ℕ, List, [], ◌∷◌, false, ◌==◌, chars, encode_utf8_all, codes, if◌then◌else◌}
use Rattle.std.specs.List.{flat_map}
use Rattle.unicode_width.specs.Width.{str_width}

-- the characters, with four spaces for each tab
abbrev pub spaced : List ℕ → List ℕ
spaced characters = flat_map (λ c. if c == 9 then codes "    " else c ∷ []) characters

-- the text as it is shown
abbrev pub shown : List ℕ → List ℕ
shown text = encode_utf8_all (spaced (chars text))

-- how many columns the text takes as it is shown
abbrev pub columns : List ℕ → ℕ
columns text = str_width false (spaced (chars text))
