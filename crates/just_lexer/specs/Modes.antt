-- What the tokens before a place say of it.
use Rattle.std.specs.Prelude.{ℕ, ◌+◌, ◌-◌, Bool, true, false, not, ◌&&◌, ◌||◌, ◌==◌, nat_le, if◌then◌else◌, List, [], ◌∷◌, ◌++◌, length, take, drop, slice_get, Option, Some, is_some}
use Rattle.std.specs.List.{prefix_len, fold}
use Rattle.just_lexer.specs.Classes.{first, is_indented, at_byte_order_mark, breaks_off}
use Rattle.just_lexer.specs.Strings.{quotes_at, ends_in_format_interpolation}
use Rattle.just_text.specs.declared.delimiter.Delimiter.TheVariants as delimiters
use Rattle.just_text.specs.declared.token_kind.TokenKind.{TokenKind}
use Rattle.just_text.specs.declared.token_kind.TokenKind.TheVariants.{BraceL, BraceR, BracketL, BracketR, ByteOrderMark, Colon, Comment, Dedent, Eof, Eol, FormatStringEnd, FormatStringStart, Indent, InterpolationEnd, InterpolationStart, ParenL, ParenR, Whitespace}
use Rattle.just_lexer.specs.declared.mode.Indentation.{Indentation}
use Rattle.just_lexer.specs.declared.mode.Indentation.TheVariants.{Spaces, Tabs}
use Rattle.just_lexer.specs.declared.mode.Open.{Open}
use Rattle.just_lexer.specs.declared.mode.Open.TheVariants.{Bracket, Interpolation, FormatInterpolation}
use Rattle.just_lexer.specs.declared.mode.Line.{Line}
use Rattle.just_lexer.specs.declared.mode.Line.TheVariants.{Begin, Start, Ahead, Inside, BodyStart, BodyLine, Over}
use Rattle.just_lexer.specs.declared.position.Position.{Position}

-- the byte that an indentation repeats
abbrev pub indent_byte : Indentation → ℕ
indent_byte (Spaces _) = 32
indent_byte (Tabs _) = 9

-- how often it repeats it
abbrev pub indent_width : Indentation → ℕ
indent_width (Spaces n) = n
indent_width (Tabs n) = n

-- the line that begins here has the indentation
abbrev pub has_indentation : Indentation → List ℕ → Bool
has_indentation i text = nat_le (indent_width i) (prefix_len (λ b. b == indent_byte i) text)

-- the indentation that the lexeme is
abbrev pub indentation_of : List ℕ → Indentation
indentation_of lexeme = if first lexeme == 32 then Spaces (length lexeme) else Tabs (length lexeme)

-- What the tokens before a place say of it: where in its line it stands, and what is open there, the innermost last.
pub record Mode : Type 0 where
  pub line : Line
  pub opened : List Open

-- the innermost of what is open
abbrev pub innermost : List Open → Option Open
innermost opened = slice_get opened (length opened - 1)

-- a bracket is open, be it around a format string's expression
abbrev pub in_brackets : Option Open → Bool
in_brackets (Some (Bracket _)) = true
in_brackets (Some (FormatInterpolation _ around)) = around
in_brackets _ = false

-- what opens at a format string's start: an expression between parts, unless the whole string is read
abbrev pub format_interpolations_of : Option Open → List ℕ → List Open
format_interpolations_of inner lexeme = if ends_in_format_interpolation (length lexeme) lexeme then FormatInterpolation (quotes_at (drop 1 lexeme)) (in_brackets inner) ∷ [] else []

-- what is open without the innermost
abbrev pub closed : List Open → List Open
closed opened = take (length opened - 1) opened

-- what is open after a token
unfoldable pub open_after : List Open → TokenKind → List ℕ → List Open
open_after opened ParenL lexeme = opened ++ Bracket delimiters.Paren ∷ []
open_after opened BracketL lexeme = opened ++ Bracket delimiters.Bracket ∷ []
open_after opened BraceL lexeme = opened ++ Bracket delimiters.Brace ∷ []
open_after opened InterpolationStart lexeme = opened ++ Interpolation ∷ []
open_after opened FormatStringStart lexeme = opened ++ format_interpolations_of (innermost opened) lexeme
open_after opened ParenR lexeme = closed opened
open_after opened BracketR lexeme = closed opened
open_after opened BraceR lexeme = closed opened
open_after opened InterpolationEnd lexeme = closed opened
open_after opened FormatStringEnd lexeme = closed opened
open_after opened _ lexeme = opened

-- After a token at the first column outside bodies. The flag says whether a body may come: a blank line and a comment line keep it, a colon sets it, and each other line clears it.
unfoldable pub start_after : Bool → TokenKind → List ℕ → Line
start_after may ByteOrderMark lexeme = Start may
start_after may Eol lexeme = Start may
start_after may Whitespace lexeme = Ahead may
start_after may Comment lexeme = Ahead may
start_after may Colon lexeme = Inside true
start_after may Indent lexeme = if may then BodyLine (indentation_of lexeme) else Inside false
start_after may Eof lexeme = Over
start_after may _ lexeme = Inside false

-- The place in the line after a token. A line end where something is open leads to no line start, and a colon counts outside brackets.
unfoldable pub line_after : Line → Option Open → TokenKind → List ℕ → Line
line_after Begin inner k lexeme = start_after false k lexeme
line_after (Start may) inner k lexeme = start_after may k lexeme
line_after (Ahead may) inner Eol lexeme = Start may
line_after (Ahead may) inner Whitespace lexeme = Ahead may
line_after (Ahead may) inner Colon lexeme = Inside true
line_after (Ahead may) inner Eof lexeme = Over
line_after (Ahead may) inner _ lexeme = Inside false
line_after (Inside may) inner Eol lexeme = if is_some inner then Inside false else Start may
line_after (Inside may) inner Colon lexeme = Inside (may || not (in_brackets inner))
line_after (Inside may) inner Eof lexeme = Over
line_after (Inside may) inner _ lexeme = Inside may
line_after (BodyStart i) inner Eol lexeme = BodyStart i
line_after (BodyStart i) inner Dedent lexeme = Start false
line_after (BodyStart i) inner _ lexeme = BodyLine i
line_after (BodyLine i) inner Eol lexeme = BodyStart i
line_after (BodyLine i) inner Dedent lexeme = Start false
line_after (BodyLine i) inner _ lexeme = BodyLine i
line_after Over inner _ lexeme = Over

-- the mode after a token
abbrev pub after : Mode → TokenKind → List ℕ → Mode
after m k lexeme = record { line = line_after m.line (innermost m.opened) k lexeme; opened = open_after m.opened k lexeme }

-- after the last token
abbrev pub is_over : Line → Bool
is_over Over = true
is_over _ = false

-- in a line outside bodies, after its leading white space, or in an expression of a body line
abbrev pub is_in_code : Line → Option Open → List ℕ → Bool
is_in_code Begin inner rest = not (at_byte_order_mark rest || is_indented rest)
is_in_code (Start _) inner rest = not (is_indented rest)
is_in_code (Ahead _) inner rest = true
is_in_code (Inside _) inner rest = true
is_in_code (BodyLine _) inner rest = is_some inner && not (breaks_off rest)
is_in_code _ inner rest = false

-- after the indentation of a body's line
abbrev pub is_in_body : Line → Bool
is_in_body (BodyLine _) = true
is_in_body _ = false

-- the position after a byte
abbrev pub advance : Position → ℕ → Position
advance p b =
    if b == 10 then record { column = 0; line = p.line + 1; offset = p.offset + 1 }
    else record { column = p.column + 1; line = p.line; offset = p.offset + 1 }

abbrev pub is_byte_order_mark : TokenKind → Bool
is_byte_order_mark ByteOrderMark = true
is_byte_order_mark _ = false

-- the position after a token: columns count after a byte order mark
abbrev pub moved : Position → TokenKind → List ℕ → Position
moved p k lexeme =
    if is_byte_order_mark k then record { column = p.column; line = p.line; offset = p.offset + length lexeme }
    else fold advance p lexeme
