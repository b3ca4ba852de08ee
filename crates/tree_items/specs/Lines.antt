-- Lines of bodies: what they say, how they are printed, and their marks.
use Rattle.std.specs.Prelude.{ℕ, ◌==◌, Bool, true, false, not, ◌&&◌, ◌||◌, ◌+◌, if◌then◌else◌, List, [], ◌∷◌, ◌++◌, map, Option, Some, None, codes, length, ◌-◌, slice_get}
use Rattle.std.specs.List.{flat_map}
use Rattle.std.specs.Option.{option_map, option_map_or}
use Rattle.just_text.specs.Tokens.{lexeme}
use Rattle.tree_items.specs.declared.line.Fragment.{Fragment}
use Rattle.tree_items.specs.declared.line.Fragment.TheVariants.{Interpolation, Text}
use Rattle.tree_items.specs.declared.line.Line.{Line}
use Rattle.tree_items.specs.declared.line.Sigils.{Sigils}
use Rattle.tree_expressions.specs.Cutting.{begins}
use Rattle.tree_expressions.specs.Shape.{Shape, shape_of}
use Rattle.tree_expressions.specs.Printing.{text_of}

-- a part of a line
pub data Piece : Type 0 where
  text : List ℕ → Piece
  interpolation : Shape → Piece

abbrev pub piece_of : Fragment → Piece
piece_of (Interpolation e) = interpolation (shape_of e)
piece_of (Text token) = text (lexeme token)

-- a line by its parts
abbrev pub pieces_of : Line → List Piece
pieces_of line = map piece_of line.fragments.items

-- how a part is printed
abbrev pub piece_text : Piece → List ℕ
piece_text (text t) = t
piece_text (interpolation e) = codes "{{ " ++ text_of e ++ codes " }}"

-- how a line is printed, without its indentation
abbrev pub line_text : List Piece → List ℕ
line_text pieces = flat_map piece_text pieces

abbrev pub no_sigils : Sigils
no_sigils = record { guard = false; infallible = false; quiet = false }

-- the marks with one more, unless the byte is no mark or a mark that is there
abbrev pub next_sigils : Bool → Sigils → ℕ → Option Sigils
next_sigils guards s byte =
    if (byte == 64) && not s.quiet then Some (record s { quiet = true })
    else if (byte == 45) && not s.infallible then Some (record s { infallible = true })
    else if (byte == 63) && guards && not s.guard then Some (record s { guard = true })
    else None

abbrev pub one_if : Bool → ℕ
one_if mark = if mark then 1 else 0

-- how many marks there are
abbrev pub sigil_count : Sigils → ℕ
sigil_count s = one_if s.guard + (one_if s.infallible + one_if s.quiet)

-- the marks at the front of a text, beside those that are there
unfoldable pub read_sigils : Bool → Sigils → List ℕ → Sigils
read_sigils guards s [] = s
read_sigils guards s (byte ∷ bytes) = option_map_or (λ more. read_sigils guards more bytes) (next_sigils guards s byte) s

-- the first part of a line, and the last
abbrev pub first_piece : Line → Option Piece
first_piece line = option_map piece_of (slice_get line.fragments.items 0)

abbrev pub last_piece : Line → Option Piece
last_piece line = option_map piece_of (slice_get line.fragments.items (length line.fragments.items - 1))

-- the marks of a line by its first part: those at the front of its text
abbrev pub sigils_of : Bool → Option Piece → Sigils
sigils_of guards None = no_sigils
sigils_of guards (Some (text t)) = read_sigils guards no_sigils t
sigils_of guards (Some (interpolation e)) = no_sigils

abbrev pub is_byte : ℕ → Option ℕ → Bool
is_byte byte None = false
is_byte byte (Some b) = b == byte

-- a line whose first part is this begins with `#`
abbrev pub is_comment : Option Piece → Bool
is_comment None = false
is_comment (Some (text t)) = is_byte 35 (slice_get t 0)
is_comment (Some (interpolation e)) = false

-- a space or a tab
abbrev pub is_white : Option ℕ → Bool
is_white None = false
is_white (Some b) = (b == 32) || (b == 9)

-- a line whose first part is this begins with white space
abbrev pub begins_with_space : Option Piece → Bool
begins_with_space None = false
begins_with_space (Some (text t)) = is_white (slice_get t 0)
begins_with_space (Some (interpolation e)) = false

-- a line whose first part is this begins with `#!`
abbrev pub is_shebang : Option Piece → Bool
is_shebang None = false
is_shebang (Some (text t)) = begins t (codes "#!")
is_shebang (Some (interpolation e)) = false

-- a line whose last part is this ends with a backslash
abbrev pub is_continuation : Option Piece → Bool
is_continuation None = false
is_continuation (Some (text t)) = is_byte 92 (slice_get t (length t - 1))
is_continuation (Some (interpolation e)) = false

-- a line whose last part is this ends with a carriage return
abbrev pub ends_in_return : Option Piece → Bool
ends_in_return None = false
ends_in_return (Some (text t)) = is_byte 13 (slice_get t (length t - 1))
ends_in_return (Some (interpolation e)) = false
