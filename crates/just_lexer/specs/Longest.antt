-- Which token stands at a place: the longest of the kinds that the mode allows there.
use Rattle.std.specs.Prelude.{◌≡◌, ℕ, ◌+◌, ◌<◌, Bool, true, false, not, ◌&&◌, ◌||◌, ◌==◌, ◌⊎◌, if◌then◌else◌, List, length, Option, Some, is_some}
use Rattle.std.specs.List.{prefix_len}
use Rattle.just_lexer.specs.Classes.{first, is_letter, is_word, is_blank, is_quote, at_two, at_line_end, at_continuation, continued_len, at_closing_braces, at_byte_order_mark, line_end_len, line_len, text_len, blank_len, is_indented, is_mixed, breaks_off}
use Rattle.just_lexer.specs.Strings.{opened_len, ended_len, opens_string, ends_in_format_interpolation}
use Rattle.just_lexer.specs.Modes.{Mode, innermost, in_brackets, indent_width, has_indentation, is_byte_order_mark}
use Rattle.just_text.specs.declared.delimiter.Delimiter.{Delimiter}
use Rattle.just_text.specs.declared.delimiter.Delimiter.TheVariants as delimiters
use Rattle.just_text.specs.declared.token_kind.TokenKind.{TokenKind}
use Rattle.just_text.specs.declared.token_kind.TokenKind.TheVariants.{AmpersandAmpersand, Asterisk, At, Backtick, Bang, BangEquals, BangTilde, BarBar, BraceL, BraceR, BracketL, BracketR, ByteOrderMark, Colon, ColonColon, ColonEquals, Comma, Comment, Dedent, Dollar, Eof, Eol, Equals, EqualsEquals, EqualsTilde, FormatStringContinue, FormatStringEnd, FormatStringStart, Identifier, Indent, InterpolationEnd, InterpolationStart, ParenL, ParenR, Plus, PlusPlus, QuestionMark, Slash, StringToken, Text, Whitespace}
use Rattle.just_lexer.specs.declared.mode.Open.{Open}
use Rattle.just_lexer.specs.declared.mode.Open.TheVariants.{Bracket, Interpolation, FormatInterpolation}
use Rattle.just_lexer.specs.declared.mode.Line.{Line}
use Rattle.just_lexer.specs.declared.mode.Line.TheVariants.{Begin, Start, Ahead, Inside, BodyStart, BodyLine, Over}

-- a mark of one byte, and of two
abbrev pub one : ℕ → List ℕ → ℕ
one a text = if first text == a then 1 else 0

abbrev pub two : ℕ → ℕ → List ℕ → ℕ
two a b text = if at_two a b text then 2 else 0

-- a name; `x` and `f` in front of a quote belong to a string
abbrev pub name_len : List ℕ → ℕ
name_len text = if is_letter (first text) && not (opens_string 120 text || opens_string 102 text) then prefix_len is_word text else 0

-- a string, also after `x`
abbrev pub string_len : List ℕ → ℕ
string_len text = if is_quote (first text) then opened_len false 0 text else if opens_string 120 text then opened_len false 1 text else 0

-- the part of a format string after an expression in it, with the braces and what ends the part
abbrev pub part_behind : Option Open → List ℕ → ℕ
part_behind (Some (FormatInterpolation q _)) text = if at_closing_braces text then ended_len true q 2 text else 0
part_behind _ text = 0

-- white space: spaces and tabs; a backslash and a line end; a line end while a bracket is open
abbrev pub white_len : Bool → List ℕ → ℕ
white_len brackets text =
    if is_blank (first text) then blank_len text
    else if at_continuation text then 1 + continued_len text
    else if brackets then line_end_len text
    else 0

-- the length of the longest front of the text that is a token of this kind, or 0
abbrev pub reach : Option Open → TokenKind → List ℕ → ℕ
reach inner AmpersandAmpersand text = two 38 38 text
reach inner Asterisk text = one 42 text
reach inner At text = one 64 text
reach inner Backtick text = if first text == 96 then opened_len false 0 text else 0
reach inner Bang text = one 33 text
reach inner BangEquals text = two 33 61 text
reach inner BangTilde text = two 33 126 text
reach inner BarBar text = two 124 124 text
reach inner BraceL text = one 123 text
reach inner BraceR text = one 125 text
reach inner BracketL text = one 91 text
reach inner BracketR text = one 93 text
reach inner ByteOrderMark text = if at_byte_order_mark text then 3 else 0
reach inner Colon text = one 58 text
reach inner ColonColon text = two 58 58 text
reach inner ColonEquals text = two 58 61 text
reach inner Comma text = one 44 text
reach inner Comment text = if first text == 35 then line_len text else 0
reach inner Dedent text = 0
reach inner Dollar text = one 36 text
reach inner Eof text = 0
reach inner Eol text = line_end_len text
reach inner Equals text = one 61 text
reach inner EqualsEquals text = two 61 61 text
reach inner EqualsTilde text = two 61 126 text
reach inner FormatStringContinue text = if ends_in_format_interpolation (part_behind inner text) text then part_behind inner text else 0
reach inner FormatStringEnd text = if ends_in_format_interpolation (part_behind inner text) text then 0 else part_behind inner text
reach inner FormatStringStart text = if opens_string 102 text then opened_len true 1 text else 0
reach inner Identifier text = name_len text
reach inner Indent text = blank_len text
reach inner InterpolationEnd text = two 125 125 text
reach inner InterpolationStart text = two 123 123 text
reach inner ParenL text = one 40 text
reach inner ParenR text = one 41 text
reach inner Plus text = one 43 text
reach inner PlusPlus text = two 43 43 text
reach inner QuestionMark text = one 63 text
reach inner Slash text = one 47 text
reach inner StringToken text = string_len text
reach inner Text text = text_len text
reach inner Whitespace text = white_len (in_brackets inner) text

-- the same where the place stands: the white space at the front of a body line is the body's indentation
abbrev pub reach_in : Line → Option Open → TokenKind → List ℕ → ℕ
reach_in (BodyStart i) inner Whitespace text = if is_indented text then indent_width i else blank_len text
reach_in _ inner k text = reach inner k text

abbrev pub is_eof : TokenKind → Bool
is_eof Eof = true
is_eof _ = false

abbrev pub is_dedent : TokenKind → Bool
is_dedent Dedent = true
is_dedent _ = false

abbrev pub is_indent : TokenKind → Bool
is_indent Indent = true
is_indent _ = false

abbrev pub is_white : TokenKind → Bool
is_white Whitespace = true
is_white _ = false

abbrev pub is_eol : TokenKind → Bool
is_eol Eol = true
is_eol _ = false

-- what a body line is made of, outside its expressions
abbrev pub is_body_kind : TokenKind → Bool
is_body_kind Eol = true
is_body_kind InterpolationStart = true
is_body_kind Text = true
is_body_kind _ = false

-- the innermost that is open is this bracket, a body line's expression, or a format string's
abbrev pub is_bracket : Option Open → Delimiter → Bool
is_bracket (Some (Bracket delimiters.Brace)) delimiters.Brace = true
is_bracket (Some (Bracket delimiters.Bracket)) delimiters.Bracket = true
is_bracket (Some (Bracket delimiters.Paren)) delimiters.Paren = true
is_bracket _ _ = false

abbrev pub is_interpolation : Option Open → Bool
is_interpolation (Some Interpolation) = true
is_interpolation _ = false

abbrev pub is_format_interpolation : Option Open → Bool
is_format_interpolation (Some (FormatInterpolation _ _)) = true
is_format_interpolation _ = false

-- what a line outside bodies or an expression is made of: a closing mark closes the innermost that is open
abbrev pub is_line_kind : Option Open → TokenKind → Bool
is_line_kind inner BraceR = is_bracket inner delimiters.Brace
is_line_kind inner BracketR = is_bracket inner delimiters.Bracket
is_line_kind inner ByteOrderMark = false
is_line_kind inner Dedent = false
is_line_kind inner Eof = false
is_line_kind inner Eol = not (in_brackets inner)
is_line_kind inner FormatStringContinue = is_format_interpolation inner
is_line_kind inner FormatStringEnd = is_format_interpolation inner
is_line_kind inner Indent = false
is_line_kind inner InterpolationEnd = is_interpolation inner
is_line_kind inner InterpolationStart = false
is_line_kind inner ParenR = is_bracket inner delimiters.Paren
is_line_kind inner Text = false
is_line_kind inner _ = true

-- the same, and the end of the text
abbrev pub in_line : Option Open → List ℕ → TokenKind → Bool
in_line inner text k = if length text == 0 then is_eof k else is_line_kind inner k

-- the first column of a line outside bodies
abbrev pub at_start : Bool → Option Open → List ℕ → TokenKind → Bool
at_start may inner text k = if is_indented text then is_indent k && not (may && is_mixed text) else in_line inner text k

-- whether the kind is allowed at the front of the text, at this place in its line and within what is open there
abbrev pub allows : Line → Option Open → List ℕ → TokenKind → Bool
allows Begin inner text k = if at_byte_order_mark text then is_byte_order_mark k else at_start false inner text k
allows (Start may) inner text k = at_start may inner text k
allows (Ahead _) inner text k = in_line inner text k
allows (Inside _) inner text k = in_line inner text k
allows (BodyStart i) inner text k =
    if is_indented text then is_white k && has_indentation i text
    else if is_blank (first text) || at_line_end text then is_white k || is_eol k
    else is_dedent k
allows (BodyLine _) inner text k =
    if is_some inner then is_line_kind inner k && not (breaks_off text)
    else if length text == 0 then is_dedent k
    else is_body_kind k
allows Over inner text k = false

-- The first n bytes are a token of this kind, and each other kind that is allowed takes fewer.
pub record IsLongestIn (line : Line) (inner : Option Open) (text : List ℕ) (k : TokenKind) (n : ℕ) : Type 0 where
  pub allowed : allows line inner text k ≡ true
  pub reaches : n ≡ reach_in line inner k text
  pub longest : (other : TokenKind) → allows line inner text other ≡ true → (other ≡ k) ⊎ (reach_in line inner other text < n)

-- the same in a mode
abbrev pub IsLongest : Mode → List ℕ → TokenKind → ℕ → Type 0
IsLongest m text k n = IsLongestIn m.line (innermost m.opened) text k n
