-- The token at a place as the code finds it, by the first bytes.
use Rattle.std.specs.Prelude.{ℕ, ◌+◌, Bool, true, false, not, ◌&&◌, ◌||◌, ◌==◌, if◌then◌else◌, List, length, take, Result, Ok, Err, Option, Some, None, is_some, encode_utf8}
use Rattle.std.specs.List.{prefix_len, flat_map}
use Rattle.std.specs.Str.{chars}
use Rattle.just_lexer.specs.Classes.{first, second, is_letter, is_word, is_blank, is_quote, at_line_end, at_continuation, continued_len, at_closing_braces, at_byte_order_mark, line_end_len, line_len, text_len, blank_len, is_blank_line, is_mixed, breaks_off}
use Rattle.just_lexer.specs.Strings.{opened_len, ended_len, opens_string, ends_in_format_interpolation}
use Rattle.just_lexer.specs.Modes.{in_brackets, has_indentation, indent_width}
use Rattle.just_text.specs.Texts.{closing}
use Rattle.just_text.specs.declared.delimiter.Delimiter.{Delimiter}
use Rattle.just_text.specs.declared.delimiter.Delimiter.TheVariants as delimiters
use Rattle.just_text.specs.declared.token_kind.TokenKind.{TokenKind}
use Rattle.just_text.specs.declared.token_kind.TokenKind.TheVariants.{AmpersandAmpersand, Asterisk, At, Backtick, Bang, BangEquals, BangTilde, BarBar, BraceL, BraceR, BracketL, BracketR, ByteOrderMark, Colon, ColonColon, ColonEquals, Comma, Comment, Dedent, Dollar, Eof, Eol, Equals, EqualsEquals, EqualsTilde, FormatStringContinue, FormatStringEnd, FormatStringStart, Identifier, Indent, InterpolationEnd, InterpolationStart, ParenL, ParenR, Plus, PlusPlus, QuestionMark, Slash, StringToken, Text, Whitespace}
use Rattle.just_text.specs.declared.compile_error.CompileErrorKind.{CompileErrorKind}
use Rattle.just_text.specs.declared.compile_error.CompileErrorKind.TheVariants as kinds
use Rattle.just_lexer.specs.declared.mode.Indentation.{Indentation}
use Rattle.just_lexer.specs.declared.mode.Open.{Open}
use Rattle.just_lexer.specs.declared.mode.Open.TheVariants.{Bracket, Interpolation, FormatInterpolation}
use Rattle.just_lexer.specs.declared.mode.Line.{Line}
use Rattle.just_lexer.specs.declared.mode.Line.TheVariants.{Begin, Start, Ahead, Inside, BodyStart, BodyLine, Over}
use Rattle.just_lexer.specs.declared.fault.Fault.{Fault}
use Rattle.just_lexer.specs.declared.fault.Fault.TheVariants as faults

-- a token's kind and length, or why there is none
abbrev pub Found : Type 0
Found = Result (TokenKind × ℕ) Fault

-- a token of this length, unless it is 0
abbrev pub sized : TokenKind → Fault → ℕ → Found
sized k f n = if n == 0 then Err f else Ok (k, n)

-- the shorter mark, or the two that go on with another byte
abbrev pub mark_of : TokenKind → ℕ → TokenKind → ℕ → TokenKind → ℕ → Found
mark_of k a k_a b k_b byte = if byte == a then Ok (k_a, 2) else if byte == b then Ok (k_b, 2) else Ok (k, 1)

-- a mark that is the same byte twice, and nothing alone
abbrev pub twice : TokenKind → ℕ → ℕ → Found
twice k a byte = if byte == a then Ok (k, 2) else Err (faults.Alone a)

-- a mark of one byte that no other mark begins with
abbrev pub single_kind : ℕ → Option TokenKind
single_kind b =
    if b == 36 then Some Dollar
    else if b == 40 then Some ParenL
    else if b == 42 then Some Asterisk
    else if b == 44 then Some Comma
    else if b == 47 then Some Slash
    else if b == 63 then Some QuestionMark
    else if b == 64 then Some At
    else if b == 91 then Some BracketL
    else if b == 123 then Some BraceL
    else None

-- the bracket that a byte closes
abbrev pub closer_of : ℕ → Option Delimiter
closer_of b =
    if b == 41 then Some delimiters.Paren
    else if b == 93 then Some delimiters.Bracket
    else if b == 125 then Some delimiters.Brace
    else None

-- its kind
abbrev pub closer_kind : Delimiter → TokenKind
closer_kind delimiters.Paren = ParenR
closer_kind delimiters.Bracket = BracketR
closer_kind delimiters.Brace = BraceR

-- a closing mark after the innermost that is open
abbrev pub close_token : Option Open → Delimiter → Found
close_token (Some (Bracket opener)) closer = if closing opener == closing closer then Ok (closer_kind closer, 1) else Err (faults.Mismatched opener closer)
close_token _ closer = Err (faults.Unexpected closer)

-- the part of a format string after an expression in it
abbrev pub part_token : ℕ → List ℕ → Found
part_token n text = sized (if ends_in_format_interpolation n text then FormatStringContinue else FormatStringEnd) faults.UnclosedString n

-- a closing mark: two braces may end an expression
unfoldable pub closing_token : Option Open → Delimiter → List ℕ → Found
closing_token (Some Interpolation) closer text = if at_closing_braces text then Ok (InterpolationEnd, 2) else close_token (Some Interpolation) closer
closing_token (Some (FormatInterpolation q around)) closer text = if at_closing_braces text then part_token (ended_len true q 2 text) text else close_token (Some (FormatInterpolation q around)) closer
closing_token inner closer text = close_token inner closer

-- a backslash, a carriage return, or what no token begins with
unfoldable pub other_token : List ℕ → Found
other_token text =
    if at_continuation text then Ok (Whitespace, 1 + continued_len text)
    else if first text == 92 then Err faults.Escape
    else if first text == 13 then Err faults.UnpairedReturn
    else Err faults.UnknownStart

-- the closing mark, if the byte is one
abbrev pub closer_token : Option Delimiter → Option Open → List ℕ → Found
closer_token (Some closer) inner text = closing_token inner closer text
closer_token None inner text = other_token text

-- the mark of one byte, if the byte is one, or a mark that closes
abbrev pub single_or_closer : Option TokenKind → Option Open → List ℕ → Found
single_or_closer (Some k) inner text = Ok (k, 1)
single_or_closer None inner text = closer_token (closer_of (first text)) inner text

unfoldable pub single_token : Option Open → List ℕ → Found
single_token inner text = single_or_closer (single_kind (first text)) inner text

-- a mark
unfoldable pub mark_token : Option Open → List ℕ → Found
mark_token inner text =
    if first text == 58 then mark_of Colon 58 ColonColon 61 ColonEquals (second text)
    else if first text == 61 then mark_of Equals 61 EqualsEquals 126 EqualsTilde (second text)
    else if first text == 33 then mark_of Bang 61 BangEquals 126 BangTilde (second text)
    else if first text == 43 then mark_of Plus 43 PlusPlus 43 PlusPlus (second text)
    else if first text == 38 then twice AmpersandAmpersand 38 (second text)
    else if first text == 124 then twice BarBar 124 (second text)
    else single_token inner text

-- white space, a line end or a comment
unfoldable pub blank_token : Option Open → List ℕ → Found
blank_token inner text =
    if is_blank (first text) then Ok (Whitespace, blank_len text)
    else if at_line_end text then Ok ((if in_brackets inner then Whitespace else Eol), line_end_len text)
    else if first text == 35 then Ok (Comment, line_len text)
    else mark_token inner text

-- a string or a command, or a name
unfoldable pub word_token : Option Open → List ℕ → Found
word_token inner text =
    if is_quote (first text) then sized StringToken faults.UnclosedString (opened_len false 0 text)
    else if opens_string 120 text then sized StringToken faults.UnclosedString (opened_len false 1 text)
    else if opens_string 102 text then sized FormatStringStart faults.UnclosedString (opened_len true 1 text)
    else if first text == 96 then sized Backtick faults.UnclosedCommand (opened_len false 0 text)
    else if is_letter (first text) then Ok (Identifier, prefix_len is_word text)
    else blank_token inner text

-- the token in a line outside bodies, or in an expression
unfoldable pub line_token : Option Open → List ℕ → Found
line_token inner text = if length text == 0 then Ok (Eof, 0) else word_token inner text

-- the token at the first column, outside bodies
unfoldable pub start_token : Bool → Option Open → List ℕ → Found
start_token may inner text =
    if not (is_blank (first text)) || is_blank_line text then line_token inner text
    else if may && is_mixed text then Err faults.MixedIndentation
    else Ok (Indent, blank_len text)

-- the token at the very start
unfoldable pub begin_token : Option Open → List ℕ → Found
begin_token inner text = if at_byte_order_mark text then Ok (ByteOrderMark, 3) else start_token false inner text

-- the token at the first column, in a body
unfoldable pub body_start_token : Indentation → List ℕ → Found
body_start_token i text =
    if at_line_end text then Ok (Eol, line_end_len text)
    else if not (is_blank (first text)) then Ok (Dedent, 0)
    else if is_blank_line text then Ok (Whitespace, blank_len text)
    else if has_indentation i text then Ok (Whitespace, indent_width i)
    else Err faults.OtherIndentation

-- the token after the indentation of a body line, outside expressions
unfoldable pub body_line_token : List ℕ → Found
body_line_token text =
    if length text == 0 then Ok (Dedent, 0)
    else if at_line_end text then Ok (Eol, line_end_len text)
    else if text_len text == 0 then Ok (InterpolationStart, 2)
    else Ok (Text, text_len text)

-- the token in an expression of a body line
unfoldable pub interpolation_token : Option Open → List ℕ → Found
interpolation_token inner text = if breaks_off text then Err faults.UnclosedInterpolation else line_token inner text

-- the token at a place
unfoldable pub token_at : Line → Option Open → List ℕ → Found
token_at Begin inner text = begin_token inner text
token_at (Start may) inner text = start_token may inner text
token_at (Ahead _) inner text = line_token inner text
token_at (Inside _) inner text = line_token inner text
token_at (BodyStart i) inner text = body_start_token i text
token_at (BodyLine _) inner text = if is_some inner then interpolation_token inner text else body_line_token text
token_at Over inner text = Ok (Eof, 0)

-- the refusal that a fault is
abbrev pub kind_of : Fault → List ℕ → CompileErrorKind
kind_of faults.UnknownStart rest = kinds.UnknownStartOfToken (first (chars rest))
kind_of (faults.Alone expected) rest = kinds.UnexpectedCharacter expected
kind_of faults.UnclosedString rest = kinds.UnterminatedString
kind_of faults.UnclosedCommand rest = kinds.UnterminatedBacktick
kind_of faults.UnclosedInterpolation rest = kinds.UnterminatedInterpolation
kind_of faults.Escape rest = kinds.InvalidEscapeSequence (flat_map encode_utf8 (take 2 (chars rest)))
kind_of (faults.Mismatched opener closer) rest = kinds.MismatchedClosingDelimiter opener closer
kind_of (faults.Unexpected closer) rest = kinds.UnexpectedClosingDelimiter closer
kind_of faults.UnpairedReturn rest = kinds.UnpairedCarriageReturn
kind_of faults.MixedIndentation rest = kinds.MixedLeadingWhitespace
kind_of faults.OtherIndentation rest = kinds.InconsistentLeadingWhitespace
