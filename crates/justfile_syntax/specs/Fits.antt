-- When a word is the token at its place: by its text, by what may stand there, and by what follows.
use Rattle.std.specs.Prelude.{◌≡◌, ℕ, ◌+◌, ◌-◌, Bool, true, false, not, ◌&&◌, ◌||◌, ◌==◌, nat_lt, if◌then◌else◌, List, [], ◌∷◌, ◌++◌, length, slice_index, Option, None, is_some}
use Rattle.just_text.specs.Tokens.{Word}
use Rattle.just_text.specs.declared.token_kind.TokenKind.{TokenKind}
use Rattle.just_text.specs.declared.token_kind.TokenKind.TheVariants.{Backtick, Bang, Colon, Comment, Dedent, Eof, Eol, Equals, FormatStringContinue, FormatStringStart, Identifier, Indent, InterpolationStart, Plus, StringToken, Text, Whitespace}
use Rattle.just_lexer.specs.declared.mode.Indentation.{Indentation}
use Rattle.just_lexer.specs.declared.mode.Open.{Open}
use Rattle.just_lexer.specs.declared.mode.Line.{Line}
use Rattle.just_lexer.specs.declared.mode.Line.TheVariants.{Begin, Start, Ahead, Inside, BodyStart, BodyLine, Over}
use Rattle.just_lexer.specs.Classes.{first, is_word, is_blank, is_quote, at_braces, at_line_end, opens_format_interpolation, text_len, is_blank_line, is_mixed}
use Rattle.just_lexer.specs.Modes.{Mode, innermost, has_indentation, indent_width}
use Rattle.just_lexer.specs.Longest.{reach, is_line_kind}
use Rattle.justfile_syntax.specs.Words.{StandsBefore}

-- within what is open the text is, by itself, one token of the kind
abbrev pub is_lexeme : Option Open → TokenKind → List ℕ → Bool
is_lexeme inner k text = nat_lt 0 (length text) && reach inner k text == length text

-- the last byte, or 0
abbrev pub last_byte : List ℕ → ℕ
last_byte text = slice_index text (length text - 1)

-- the text ends here, or its line does
abbrev pub at_end : List ℕ → Bool
at_end rest = length rest == 0 || at_line_end rest

-- a carriage return at the text's end and a newline after it would be one line end
abbrev pub makes_line_end : List ℕ → List ℕ → Bool
makes_line_end text rest = last_byte text == 13 && first rest == 10

-- the name is one letter that a string may have in front
abbrev pub is_string_letter : List ℕ → Bool
is_string_letter text = length text == 1 && (first text == 120 || first text == 102)

-- after two marks with nothing between them, and a letter or none in front, the same mark would make three
abbrev pub makes_three : ℕ → List ℕ → List ℕ → Bool
makes_three letters text rest = length text == letters + 2 && first rest == slice_index text letters

-- two braces at the text's end and two after them would stay together
abbrev pub makes_four : List ℕ → List ℕ → Bool
makes_four text rest = last_byte text == 123 && at_braces rest

-- a brace after the text would belong to it
abbrev pub takes_brace : List ℕ → Bool
takes_brace text = text_len (text ++ 123 ∷ []) == length text + 1

-- the mark of a byte that isn't the beginning of a longer one
abbrev pub goes_no_further : TokenKind → ℕ → Bool
goes_no_further Bang b = not (b == 61 || b == 126)
goes_no_further Colon b = not (b == 58 || b == 61)
goes_no_further Equals b = not (b == 61 || b == 126)
goes_no_further Plus b = not (b == 43)
goes_no_further _ b = true

-- what follows doesn't run together with a token of the kind and the text
abbrev pub keeps_apart : TokenKind → List ℕ → List ℕ → Bool
keeps_apart Identifier text rest = not (is_word (first rest)) && not (is_string_letter text && is_quote (first rest))
keeps_apart StringToken text rest = not (makes_three (if is_quote (first text) then 0 else 1) text rest)
keeps_apart Backtick text rest = not (makes_three 0 text rest)
keeps_apart FormatStringStart text rest = not (makes_three 1 text rest) && not (makes_four text rest)
keeps_apart FormatStringContinue text rest = not (makes_four text rest)
keeps_apart Whitespace text rest = not (is_blank (first text) && is_blank (first rest))
keeps_apart Comment text rest = at_end rest && not (makes_line_end text rest)
keeps_apart Indent text rest = not (is_blank (first rest))
keeps_apart InterpolationStart text rest = not (at_braces rest)
keeps_apart Text text rest = length rest == 0 || ((at_line_end rest && not (makes_line_end text rest)) || (opens_format_interpolation rest && takes_brace text))
keeps_apart k text rest = goes_no_further k (first rest)

-- the word by itself is one token of its kind, and what follows doesn't run together with it
abbrev pub is_alone : Option Open → Word → List ℕ → Bool
is_alone inner w rest = is_lexeme inner w.kind w.text && keeps_apart w.kind w.text rest

-- the word is one of a line outside bodies, or of an expression
abbrev pub fits_code : Option Open → Word → List ℕ → Bool
fits_code inner w rest = is_line_kind inner w.kind && is_alone inner w rest

-- after a line's start, outside bodies: such a word, or the end of the text
abbrev pub fits_line : Option Open → TokenKind → Word → List ℕ → Bool
fits_line inner Eof w rest = length w.text == 0 && length rest == 0
fits_line inner _ w rest = fits_code inner w rest

-- at a line's start, outside bodies: the same without white space in front, or the indentation of a body's first line
abbrev pub fits_start : Bool → Option Open → TokenKind → Word → List ℕ → Bool
fits_start may inner Eof w rest = length w.text == 0 && length rest == 0
fits_start may inner Indent w rest = is_alone inner w rest && (not (at_end rest) && not (may && is_mixed w.text))
fits_start may inner _ w rest = not (is_blank (first w.text)) && fits_code inner w rest

-- at a line's start in a body: the end of an empty line, the body's end before a line that isn't indented, or the body's indentation
abbrev pub fits_body_start : Indentation → TokenKind → Word → List ℕ → Bool
fits_body_start i Eol w rest = is_alone None w rest
fits_body_start i Dedent w rest = length w.text == 0 && not (is_blank (first rest) || at_line_end rest)
fits_body_start i Whitespace w rest = (nat_lt 0 (length w.text) && length w.text == indent_width i) && (has_indentation i w.text && not (is_blank_line rest))
fits_body_start i _ w rest = false

-- after the indentation: text, the start of an expression, the line's end, or the body's end before nothing
abbrev pub fits_body_line : TokenKind → Word → List ℕ → Bool
fits_body_line Eol w rest = is_alone None w rest
fits_body_line Text w rest = is_alone None w rest
fits_body_line InterpolationStart w rest = is_alone None w rest
fits_body_line Dedent w rest = length w.text == 0 && length rest == 0
fits_body_line _ w rest = false

-- neither a line end nor a continuation
abbrev pub stays_in_line : List ℕ → Bool
stays_in_line text = not ((first text == 10 || first text == 13) || first text == 92)

-- whether the word, before the rest, is the token at a place in its line, within what is open there
abbrev pub fits_at : Line → Option Open → Word → List ℕ → Bool
fits_at Begin inner w rest = fits_start false inner w.kind w rest
fits_at (Start may) inner w rest = fits_start may inner w.kind w rest
fits_at (Ahead _) inner w rest = fits_line inner w.kind w rest
fits_at (Inside _) inner w rest = fits_line inner w.kind w rest
fits_at (BodyStart i) inner w rest = fits_body_start i w.kind w rest
fits_at (BodyLine _) inner w rest = if is_some inner then stays_in_line w.text && fits_code inner w rest else fits_body_line w.kind w rest
fits_at Over inner w rest = false

-- the same in a mode
abbrev pub fits : Mode → Word → List ℕ → Bool
fits m w rest = fits_at m.line (innermost m.opened) w rest

-- a word that fits is the longest token at its place
abbrev pub FittingStand : Type 0
FittingStand = (m : Mode) (w : Word) (rest : List ℕ) → fits m w rest ≡ true → StandsBefore m w rest
