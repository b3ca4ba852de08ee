-- Where a string or a command ends.
use Rattle.std.specs.Prelude.{ℕ, ◌+◌, ◌-◌, Bool, not, ◌&&◌, ◌||◌, ◌==◌, nat_lt, if◌then◌else◌, List, length, drop, slice_index}
use Rattle.just_lexer.specs.declared.quotes.Quote.{Quote}
use Rattle.just_lexer.specs.declared.quotes.Quote.TheVariants.{Single, Double, Backtick}
use Rattle.just_lexer.specs.declared.quotes.Quotes.{Quotes}
use Rattle.just_lexer.specs.Classes.{first, second, is_quote, at_braces, opens_format_interpolation, until_over}

-- the byte of a quote
abbrev pub quote_byte : Quote → ℕ
quote_byte Single = 39
quote_byte Double = 34
quote_byte Backtick = 96

-- the quote that a byte is; an apostrophe for the others
abbrev pub quote_of : ℕ → Quote
quote_of b = if b == 34 then Double else if b == 96 then Backtick else Single

-- three quotes or one
abbrev pub quotes_len : Quotes → ℕ
quotes_len q = if q.tripled then 3 else 1

-- only double quotes have escapes
abbrev pub has_escapes : Quotes → Bool
has_escapes q = quote_byte q.quote == 34

-- the first three bytes are the same
abbrev pub at_three : List ℕ → Bool
at_three text = second text == first text && slice_index text 2 == first text

-- the quotes that open at the front: three if there are three
abbrev pub quotes_at : List ℕ → Quotes
quotes_at text = record { quote = quote_of (first text); tripled = at_three text }

-- the quotes stand at the front
abbrev pub at_quotes : Quotes → List ℕ → Bool
at_quotes q text = first text == quote_byte q.quote && (not q.tripled || at_three text)

-- a part of a string ends here: at its quotes or, in a format string, where an expression begins
abbrev pub ends_part : Bool → Quotes → List ℕ → Bool
ends_part format q text = at_quotes q text || (format && opens_format_interpolation text)

-- a backslash takes the byte after it along, where there are escapes; four braces of a format string stay together
abbrev pub part_takes : Bool → Quotes → List ℕ → ℕ
part_takes format q text = if has_escapes q && first text == 92 then 1 else if format && at_braces text then 3 else 0

-- how many bytes stand in front of the first such end, or of the end of the text
abbrev pub part_len : Bool → Quotes → List ℕ → ℕ
part_len format q text = until_over (ends_part format q) (part_takes format q) 0 text

-- the part of a string that begins here has an end
abbrev pub has_end : Bool → Quotes → List ℕ → Bool
has_end format q text = nat_lt (part_len format q text) (length text)

-- the length of what ends a part: the quotes, or two braces
abbrev pub end_len : Quotes → List ℕ → ℕ
end_len q text = if at_quotes q text then quotes_len q else 2

-- the length of what has a part of a string after its first n bytes, up to and with the part's end; 0 where it has none
unfoldable pub ended_len : Bool → Quotes → ℕ → List ℕ → ℕ
ended_len format q n text =
    if has_end format q (drop n text) then n + part_len format q (drop n text) + end_len q (drop (part_len format q (drop n text)) (drop n text))
    else 0

-- the same where quotes open after `letters` bytes
abbrev pub opened_len : Bool → ℕ → List ℕ → ℕ
opened_len format letters text = ended_len format (quotes_at (drop letters text)) (letters + quotes_len (quotes_at (drop letters text))) text

-- the letter stands at the front, and a quote after it
abbrev pub opens_string : ℕ → List ℕ → Bool
opens_string letter text = first text == letter && is_quote (second text)

-- the string or command opened here, after `letters` bytes, has no end
abbrev pub is_unclosed : Bool → ℕ → List ℕ → Bool
is_unclosed format letters text = not (has_end format (quotes_at (drop letters text)) (drop (letters + quotes_len (quotes_at (drop letters text))) text))

-- the last of the first n bytes is a brace: a part of a format string ends where an expression begins
abbrev pub ends_in_format_interpolation : ℕ → List ℕ → Bool
ends_in_format_interpolation n text = slice_index text (n - 1) == 123
