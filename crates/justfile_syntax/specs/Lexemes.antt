-- The tokens of a text by themselves.
use Rattle.std.specs.Prelude.{◌≡◌, ℕ, ◌<◌, Bool, true, false, List, length, All, ◌++◌, Option, Some, None}
use Rattle.just_text.specs.Tokens.{Word}
use Rattle.just_text.specs.declared.token_kind.TokenKind.{TokenKind}
use Rattle.just_text.specs.declared.token_kind.TokenKind.TheVariants.{FormatStringContinue, FormatStringEnd, InterpolationStart, Text, Whitespace}
use Rattle.just_lexer.specs.declared.quotes.Quotes.{Quotes}
use Rattle.just_lexer.specs.declared.mode.Indentation.{Indentation}
use Rattle.just_lexer.specs.declared.mode.Open.{Open}
use Rattle.just_lexer.specs.declared.mode.Open.TheVariants.{FormatInterpolation}
use Rattle.just_lexer.specs.Modes.{Mode, innermost}
use Rattle.just_lexer.specs.Longest.{is_white}
use Rattle.just_lexer.specs.Lexes.{Piece, Lexes}
use Rattle.justfile_syntax.specs.Words.{StandsBefore}
use Rattle.justfile_syntax.specs.Fits.{is_lexeme, takes_brace}
use Rattle.justfile_syntax.specs.InCode.{word}
use Rattle.justfile_syntax.specs.Bodies.{in_body}

-- a token that isn't empty and isn't white space is by itself one token of its kind
abbrev pub TokensAreLexemes : Type 0
TokensAreLexemes = (m : Mode) (w : Word) (rest : List ℕ) → StandsBefore m w rest → is_white w.kind ≡ false → 0 < length w.text → is_lexeme (innermost m.opened) w.kind w.text ≡ true

-- what is open tells nothing of these kinds: all but white space and the further parts of a format string
abbrev pub is_anywhere : TokenKind → Bool
is_anywhere FormatStringContinue = false
is_anywhere FormatStringEnd = false
is_anywhere Whitespace = false
is_anywhere _ = true

abbrev pub LexemesAnywhere : Type 0
LexemesAnywhere = (inner other : Option Open) (k : TokenKind) (text : List ℕ) → is_anywhere k ≡ true → is_lexeme inner k text ≡ true → is_lexeme other k text ≡ true

-- a token of such a kind that isn't empty is by itself one token
abbrev pub IsLexeme : Piece → Type 0
IsLexeme t = is_anywhere t.kind ≡ true → 0 < length t.text → is_lexeme None t.kind t.text ≡ true

-- each token of a text is
abbrev pub LexedAreLexemes : Type 0
LexedAreLexemes = (text : List ℕ) (ts : List Piece) → Lexes text ts → All IsLexeme ts

-- the parts of a format string are lexemes whether or not a bracket is open around it
abbrev pub PartsAnywhere : Type 0
PartsAnywhere = (q : Quotes) (around other : Bool) (k : TokenKind) (text : List ℕ) → is_white k ≡ false → is_lexeme (Some (FormatInterpolation q around)) k text ≡ true → is_lexeme (Some (FormatInterpolation q other)) k text ≡ true

-- text with an expression after it doesn't end in half of four braces
abbrev pub TextsEndWell : Type 0
TextsEndWell = (i : Indentation) (text braces rest : List ℕ) → StandsBefore (in_body i) (word Text text) (braces ++ rest) → StandsBefore (in_body i) (word InterpolationStart braces) rest → takes_brace text ≡ true
