-- The fronts of names.
use Rattle.std.specs.Prelude.{ℕ, zero, suc, ◌+◌, ◌*◌, ◌<◌, List, [], ◌∷◌, fold, length, slice_index_or as get_or}

-- so many bytes of a text, zeros after a shorter one
abbrev pub bytes_of : ℕ → List ℕ → List ℕ
bytes_of zero text = []
bytes_of (suc count) [] = 0 ∷ bytes_of count []
bytes_of (suc count) (byte ∷ bytes) = byte ∷ bytes_of count bytes

abbrev pub with_byte : ℕ → ℕ → ℕ
with_byte number byte = number * 256 + byte

-- the first eight bytes of a text as a number, the first byte the highest
unfoldable pub front_of : List ℕ → ℕ
front_of text = fold with_byte 0 (bytes_of 8 text)

-- each number is one of eight bits
abbrev pub AreBytes : List ℕ → Type 0
AreBytes text = (i : ℕ) → i < length text → get_or text i 0 < 256
