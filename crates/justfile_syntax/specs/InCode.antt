-- Words in code: in a line outside bodies, or in an expression of a body's line.
use Rattle.std.specs.Prelude.{◌≡◌, ℕ, Bool, true, false, List, [], ◌∷◌, ◌++◌, length, drop, Option, Some, is_some}
use Rattle.just_text.specs.Tokens.{Word}
use Rattle.just_text.specs.Texts.{closing}
use Rattle.just_text.specs.declared.delimiter.Delimiter.{Delimiter}
use Rattle.just_text.specs.declared.delimiter.Delimiter.TheVariants as delimiters
use Rattle.just_text.specs.declared.token_kind.TokenKind.{TokenKind}
use Rattle.just_text.specs.declared.token_kind.TokenKind.TheVariants.{BraceL, BraceR, BracketL, BracketR, ByteOrderMark, Colon, Dedent, Eof, Eol, FormatStringEnd, FormatStringStart, Indent, InterpolationEnd, InterpolationStart, ParenL, ParenR, Text, Whitespace}
use Rattle.just_lexer.specs.declared.mode.Open.{Open}
use Rattle.just_lexer.specs.declared.mode.Open.TheVariants.{Bracket, FormatInterpolation}
use Rattle.just_lexer.specs.declared.mode.Line.{Line}
use Rattle.just_lexer.specs.declared.mode.Line.TheVariants.{Inside, BodyLine}
use Rattle.just_lexer.specs.Classes.{first, is_blank}
use Rattle.just_lexer.specs.Strings.{quotes_at, ends_in_format_interpolation}
use Rattle.just_lexer.specs.Modes.{Mode, innermost, in_brackets}
use Rattle.justfile_syntax.specs.Words.{LexesFrom}
use Rattle.justfile_syntax.specs.Fits.{is_lexeme, fits_code}

abbrev pub word : TokenKind → List ℕ → Word
word kind text = record { kind = kind; text = text }

-- after the first word of a line outside bodies, or in an expression of a body's line
abbrev pub is_code_place : Line → Option Open → Bool
is_code_place (Inside _) inner = true
is_code_place (BodyLine _) inner = is_some inner
is_code_place _ inner = false

-- the mode is in code
abbrev pub is_code : Mode → Bool
is_code m = is_code_place m.line (innermost m.opened)

-- the same place with one more open
abbrev pub within : Mode → Open → Mode
within m o = record { line = m.line; opened = m.opened ++ o ∷ [] }

-- no bracket and no brace, no `:`, no start or end of a format string, and nothing of lines and bodies
abbrev pub is_plain : TokenKind → Bool
is_plain BraceL = false
is_plain BraceR = false
is_plain BracketL = false
is_plain BracketR = false
is_plain ByteOrderMark = false
is_plain Colon = false
is_plain Dedent = false
is_plain Eof = false
is_plain Eol = false
is_plain FormatStringEnd = false
is_plain FormatStringStart = false
is_plain Indent = false
is_plain InterpolationEnd = false
is_plain InterpolationStart = false
is_plain ParenL = false
is_plain ParenR = false
is_plain Text = false
is_plain _ = true

-- white space is of spaces and tabs
abbrev pub is_on_line : TokenKind → List ℕ → Bool
is_on_line Whitespace text = is_blank (first text)
is_on_line _ text = true

-- in code a plain word leads on in the same mode
abbrev pub PlainWords : Type 0
PlainWords = (m : Mode) (w : Word) (rest : List ℕ) → is_code m ≡ true → is_plain w.kind ≡ true → is_on_line w.kind w.text ≡ true → fits_code (innermost m.opened) w rest ≡ true → LexesFrom m (w ∷ []) rest m

-- the kinds of brackets
abbrev pub opener_kind : Delimiter → TokenKind
opener_kind delimiters.Brace = BraceL
opener_kind delimiters.Bracket = BracketL
opener_kind delimiters.Paren = ParenL

abbrev pub closer_kind : Delimiter → TokenKind
closer_kind delimiters.Brace = BraceR
closer_kind delimiters.Bracket = BracketR
closer_kind delimiters.Paren = ParenR

-- the byte of an opening bracket
abbrev pub opening : Delimiter → ℕ
opening delimiters.Brace = 123
opening delimiters.Bracket = 91
opening delimiters.Paren = 40

-- the brackets as words
abbrev pub opener : Delimiter → Word
opener d = word (opener_kind d) (opening d ∷ [])

abbrev pub closer : Delimiter → Word
closer d = word (closer_kind d) (closing d ∷ [])

-- in code an opening bracket leads into the bracket, before whatever follows
abbrev pub BracketsOpen : Type 0
BracketsOpen = (m : Mode) (d : Delimiter) (rest : List ℕ) → is_code m ≡ true → LexesFrom m (opener d ∷ []) rest (within m (Bracket d))

-- and its closing bracket out of it
abbrev pub BracketsClose : Type 0
BracketsClose = (m : Mode) (d : Delimiter) (rest : List ℕ) → is_code m ≡ true → LexesFrom (within m (Bracket d)) (closer d ∷ []) rest m

-- the expression that opens after a format string's start
abbrev pub format_interpolation : Mode → List ℕ → Open
format_interpolation m text = FormatInterpolation (quotes_at (drop 1 text)) (in_brackets (innermost m.opened))

-- in code a whole format string leads on in the same mode
abbrev pub WholeFormats : Type 0
WholeFormats = (m : Mode) (text rest : List ℕ) → is_code m ≡ true → ends_in_format_interpolation (length text) text ≡ false → fits_code (innermost m.opened) (word FormatStringStart text) rest ≡ true → LexesFrom m (word FormatStringStart text ∷ []) rest m

-- one that stops at an expression leads into it
abbrev pub FormatsOpen : Type 0
FormatsOpen = (m : Mode) (text rest : List ℕ) → is_code m ≡ true → ends_in_format_interpolation (length text) text ≡ true → fits_code (innermost m.opened) (word FormatStringStart text) rest ≡ true → LexesFrom m (word FormatStringStart text ∷ []) rest (within m (format_interpolation m text))

-- and its end out of it, before whatever follows
abbrev pub FormatsClose : Type 0
FormatsClose = (m : Mode) (text end rest : List ℕ) → is_code m ≡ true → is_lexeme (Some (format_interpolation m text)) FormatStringEnd end ≡ true → LexesFrom (within m (format_interpolation m text)) (word FormatStringEnd end ∷ []) rest m
