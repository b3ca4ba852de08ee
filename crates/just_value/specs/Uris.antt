-- Bytes of a component of a URI.
use Rattle.std.specs.Prelude.{ℕ, List, [], ◌∷◌, ◌==◌, ◌||◌, ◌/◌, ◌%◌, Bool, true, cond, codes}
use Rattle.std.specs.Char.{is_ascii_alphanumeric}
use Rattle.std.specs.Fmt.{digit_glyph}
use Rattle.std.specs.List.{list_any}

-- ASCII letters, digits and nine marks stand for themselves
abbrev pub is_plain : ℕ → Bool
is_plain byte = is_ascii_alphanumeric byte || list_any (λ mark. mark == byte) (codes "-_.!~*'()")

-- any other byte is escaped by its two hexadecimal digits
abbrev pub uri_byte : ℕ → List ℕ
uri_byte byte = cond (is_plain byte) (byte ∷ []) (37 ∷ digit_glyph true (byte / 16) ∷ digit_glyph true (byte % 16) ∷ [])
