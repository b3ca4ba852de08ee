-- What the tokens of a text say of the names, strings, commands and parts in it.
use Rattle.std.specs.Prelude.{◌≡◌, ℕ, Bool, true, false, ◌==◌, List, [], ◌∷◌, length}
use Rattle.just_text.specs.Tokens.{Word}
use Rattle.just_text.specs.declared.token_kind.TokenKind.TheVariants.{Backtick, Comment, FormatStringContinue, FormatStringEnd, FormatStringStart, Identifier, StringToken}
use Rattle.just_text.specs.declared.token_kind.TokenKind.{TokenKind}
use Rattle.std.specs.Prelude.{map}
use Rattle.just_lexer.specs.Lexes.{piece_word, Lexes, Piece}
use Rattle.parse_expressions.specs.Words.{significant}
use Rattle.just_lexer.specs.declared.mode.Open.{Open}
use Rattle.just_lexer.specs.Modes.{innermost, open_after}
use Rattle.just_lexer.specs.Strings.{ends_in_format_interpolation}
use Rattle.tree_expressions.specs.Shape.{Shape}
use Rattle.parse_expressions.specs.Literals.{Expansion, is_open}
use Rattle.parse_expressions.specs.Grammar.{Is}
use Rattle.justfile_syntax.specs.Fits.{is_lexeme}
use Rattle.laws_printing.specs.Printing.Lexed.{is_written}
use Rattle.std.specs.Prelude.{None}

-- names, strings, commands, comments and parts of format strings
abbrev pub is_lexed : TokenKind → Bool
is_lexed Backtick = true
is_lexed Comment = true
is_lexed FormatStringContinue = true
is_lexed FormatStringEnd = true
is_lexed FormatStringStart = true
is_lexed Identifier = true
is_lexed StringToken = true
is_lexed k = false

-- each such word is one token by itself, within what the words before it have opened
abbrev pub Held : List Open → List Word → Type 0
Held opened [] = Unit {0}
Held opened (w ∷ ws) = (is_lexed w.kind ≡ true → is_lexeme (innermost opened) w.kind w.text ≡ true) × Held (open_after opened w.kind w.text) ws

-- the start of a format string that ends in a brace stops at an expression, and isn't three bytes long
pub record FormatsStop : Type 0 where
  pub stops : (s : List ℕ) → is_lexeme None FormatStringStart s ≡ true → ends_in_format_interpolation (length s) s ≡ is_open s
  pub long : (s : List ℕ) → is_lexeme None FormatStringStart s ≡ true → is_open s ≡ true → (length s == 3) ≡ false

-- an expression that such words spell has names, strings, commands and parts that are tokens, and opens what it closes
abbrev pub SourcesAreWritten : Type 0
SourcesAreWritten = (expansion : Expansion) (e : Shape) (words rest : List Word) (opened : List Open) → Is expansion e words rest → Held opened words → Held opened rest × (is_written e ≡ true)

-- the tokens of a text are such words
abbrev pub TokensAreHeld : Type 0
TokensAreHeld = (text : List ℕ) (ts : List Piece) → Lexes text ts → Held [] (significant (map piece_word ts))
