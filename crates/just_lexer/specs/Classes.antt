-- Classes of bytes, and what stands at the front of a text.
use Rattle.std.specs.Prelude.{ℕ, zero, suc, ◌+◌, Bool, not, ◌&&◌, ◌||◌, ◌==◌, nat_lt, if◌then◌else◌, List, [], ◌∷◌, length, take, drop, slice_index}
use Rattle.std.specs.List.{prefix_len, list_any}
use Rattle.std.specs.Char.{is_ascii_alphabetic, is_ascii_alphanumeric}

-- the first byte, or 0
abbrev pub first : List ℕ → ℕ
first text = slice_index text 0

-- the byte after it, or 0
abbrev pub second : List ℕ → ℕ
second text = slice_index text 1

-- what a name begins with
abbrev pub is_letter : ℕ → Bool
is_letter b = is_ascii_alphabetic b || b == 95

-- what a name goes on with
abbrev pub is_word : ℕ → Bool
is_word b = (is_ascii_alphanumeric b || b == 95) || b == 45

-- a space or a tab
abbrev pub is_blank : ℕ → Bool
is_blank b = b == 32 || b == 9

-- a single or a double quote
abbrev pub is_quote : ℕ → Bool
is_quote b = b == 39 || b == 34

-- the two bytes stand at the front
abbrev pub at_two : ℕ → ℕ → List ℕ → Bool
at_two a b text = first text == a && second text == b

-- the length of the line end at the front: a newline, or a carriage return and a newline; else 0
abbrev pub line_end_len : List ℕ → ℕ
line_end_len text = if first text == 10 then 1 else if at_two 13 10 text then 2 else 0

-- a line end stands at the front
abbrev pub at_line_end : List ℕ → Bool
at_line_end text = nat_lt 0 (line_end_len text)

-- the length of the line end after a backslash at the front, or 0
abbrev pub continued_len : List ℕ → ℕ
continued_len text = if first text == 92 then line_end_len (drop 1 text) else 0

-- a backslash and a line end stand at the front
abbrev pub at_continuation : List ℕ → Bool
at_continuation text = nat_lt 0 (continued_len text)

-- two opening braces stand at the front
abbrev pub at_braces : List ℕ → Bool
at_braces text = at_two 123 123 text

-- two closing braces stand at the front
abbrev pub at_closing_braces : List ℕ → Bool
at_closing_braces text = at_two 125 125 text

-- two opening braces stand at the front, and not four: an expression begins after them
abbrev pub opens_format_interpolation : List ℕ → Bool
opens_format_interpolation text = at_braces text && not (slice_index text 2 == 123 && slice_index text 3 == 123)

-- the byte order mark stands at the front
abbrev pub at_byte_order_mark : List ℕ → Bool
at_byte_order_mark text = at_two 239 187 text && slice_index text 2 == 191

-- how many bytes stand in front of the first place of this sort, or of the end
unfoldable pub until : (List ℕ → Bool) → List ℕ → ℕ
until stops [] = 0
until stops (b ∷ bs) = if stops (b ∷ bs) then 0 else until stops bs + 1

-- The same, but a place may take the bytes after it along, in which none is looked for: `takes` says how many. The first `skip` bytes are taken along.
unfoldable pub until_over : (List ℕ → Bool) → (List ℕ → ℕ) → ℕ → List ℕ → ℕ
until_over stops takes skip [] = 0
until_over stops takes (suc skip) (b ∷ bs) = until_over stops takes skip bs + 1
until_over stops takes zero (b ∷ bs) = if stops (b ∷ bs) then 0 else until_over stops takes (takes (b ∷ bs)) bs + 1

-- a comment goes up to the line end
abbrev pub line_len : List ℕ → ℕ
line_len text = until at_line_end text

-- the text of a body line goes up to the line end or an expression
abbrev pub ends_text : List ℕ → Bool
ends_text text = at_line_end text || opens_format_interpolation text

-- four braces stay together
abbrev pub brace_takes : List ℕ → ℕ
brace_takes text = if at_braces text then 3 else 0

abbrev pub text_len : List ℕ → ℕ
text_len text = until_over ends_text brace_takes 0 text

-- how many spaces and tabs stand at the front
abbrev pub blank_len : List ℕ → ℕ
blank_len text = prefix_len is_blank text

-- the line that begins here has nothing but spaces and tabs
abbrev pub is_blank_line : List ℕ → Bool
is_blank_line text = length (drop (blank_len text) text) == 0 || at_line_end (drop (blank_len text) text)

-- a line that isn't blank and begins with white space
abbrev pub is_indented : List ℕ → Bool
is_indented text = is_blank (first text) && not (is_blank_line text)

-- the white space at the front has spaces and tabs
abbrev pub is_mixed : List ℕ → Bool
is_mixed text = list_any (λ b. b == 32) (take (blank_len text) text) && list_any (λ b. b == 9) (take (blank_len text) text)

-- what no line end may stand in breaks off here: at the text's end, a line end or a continuation
abbrev pub breaks_off : List ℕ → Bool
breaks_off text = (length text == 0 || at_line_end text) || at_continuation text
