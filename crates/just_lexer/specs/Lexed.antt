-- What the lexer answers.
use Rattle.std.specs.Prelude.{◌≡◌, ◌≢◌, ℕ, Bool, true, false, not, ◌&&◌, ◌||◌, ◌==◌, List, ◌∷◌, ◌++◌, Result, Ok, Err, All, ◌⊎◌, take, drop, Option, Some, is_some, codes, encode_utf8}
use Rattle.std.specs.List.{fold, flat_map, list_any}
use Rattle.std.specs.Str.{chars}
use Rattle.std.specs.Global.{Vec}
use Rattle.just_text.specs.declared.token_kind.TokenKind.{TokenKind}
use Rattle.just_text.specs.declared.token.Token.{Token}
use Rattle.just_text.specs.declared.delimiter.Delimiter.{Delimiter}
use Rattle.just_text.specs.Texts.{closing}
use Rattle.just_lexer.specs.declared.position.Position.{Position}
use Rattle.just_text.specs.declared.compile_error.CompileError.{CompileError}
use Rattle.just_text.specs.declared.compile_error.CompileErrorKind.{CompileErrorKind}
use Rattle.just_text.specs.declared.compile_error.CompileErrorKind.TheVariants.{OutOfMemory, UnknownStartOfToken, UnexpectedCharacter, UnterminatedString, UnterminatedBacktick, UnterminatedInterpolation, InvalidEscapeSequence, MismatchedClosingDelimiter, UnexpectedClosingDelimiter, UnpairedCarriageReturn, MixedLeadingWhitespace, InconsistentLeadingWhitespace}
use Rattle.just_lexer.specs.declared.mode.Indentation.{Indentation}
use Rattle.just_lexer.specs.declared.mode.Open.{Open}
use Rattle.just_lexer.specs.declared.mode.Open.TheVariants.{Bracket, FormatInterpolation}
use Rattle.just_lexer.specs.declared.mode.Line.TheVariants.{Start, BodyStart}
use Rattle.just_lexer.specs.Classes.{first, second, is_letter, is_blank, is_quote, at_line_end, at_closing_braces, is_indented, is_mixed, breaks_off}
use Rattle.just_lexer.specs.Strings.{opens_string, is_unclosed, has_end}
use Rattle.just_lexer.specs.Modes.{Mode, innermost, has_indentation, is_in_code, is_in_body}
use Rattle.just_lexer.specs.Longest.{IsLongest}
use Rattle.just_lexer.specs.Lexes.{Piece, pieces, position_of, Place, start, behind, AllTokens}

-- the tokens are these, unless memory ran out
abbrev pub Gives : Result (Vec Token) CompileError → List Piece → Type 0
Gives (Ok out) ts = pieces out.items ≡ ts
Gives (Err e) ts = e.kind ≡ OutOfMemory

-- each token borrows from the path and the text
abbrev pub AllBorrow : List ℕ → List ℕ → List Token → Type 0
AllBorrow path src ts = All (λ t. (t.path.now ≡ path) × (t.src.now ≡ src)) ts

-- the mode's place is in a line outside bodies, or in an expression
abbrev pub InCode : Mode → List ℕ → Type 0
InCode mode rest = is_in_code mode.line (innermost mode.opened) rest ≡ true

-- a letter, a blank, or a character that marks, strings, comments, line ends and escapes begin with
abbrev pub begins_token : ℕ → Bool
begins_token c = (is_letter c || is_blank c) || list_any (λ b. c == b) (10 ∷ 13 ∷ codes "#'\"`:=!&|+*/@$?,()[]{}\\")

-- In a line outside bodies, or in an expression, the rest begins with a character that no token begins with.
pub record IsUnknownStart (c : ℕ) (mode : Mode) (rest : List ℕ) : Type 0 where
  pub in_code : InCode mode rest
  pub more : List ℕ
  pub begins : rest ≡ encode_utf8 c ++ more
  pub unknown : begins_token c ≡ false

-- There the rest begins with an ampersand or a bar, and the same doesn't stand after it.
pub record IsAlone (c : ℕ) (mode : Mode) (rest : List ℕ) : Type 0 where
  pub in_code : InCode mode rest
  pub mark : (c ≡ 38) ⊎ (c ≡ 124)
  pub begins : first rest ≡ c
  pub alone : second rest ≢ c

-- There the rest begins with a carriage return, and no newline stands after it.
pub record IsUnpairedReturn (mode : Mode) (rest : List ℕ) : Type 0 where
  pub in_code : InCode mode rest
  pub carriage_return : first rest ≡ 13
  pub unpaired : second rest ≢ 10

-- There the rest begins with a backslash, and no line end stands after it. The escape is the backslash and the character after it.
pub record IsInvalidEscape (escape : List ℕ) (mode : Mode) (rest : List ℕ) : Type 0 where
  pub in_code : InCode mode rest
  pub backslash : first rest ≡ 92
  pub no_continuation : at_line_end (drop 1 rest) ≡ false
  pub escaped : escape ≡ flat_map encode_utf8 (take 2 (chars rest))

-- a string opens here, also after `x` or `f`, and nothing ends it
abbrev pub opens_unclosed : List ℕ → Bool
opens_unclosed rest = (is_quote (first rest) && is_unclosed false 0 rest) || ((opens_string 120 rest && is_unclosed false 1 rest) || (opens_string 102 rest && is_unclosed true 1 rest))

-- after an expression of a format string a part begins here, and nothing ends it
abbrev pub goes_on_unclosed : Option Open → List ℕ → Bool
goes_on_unclosed (Some (FormatInterpolation q _)) rest = at_closing_braces rest && not (has_end true q (drop 2 rest))
goes_on_unclosed _ rest = false

-- There a string begins or goes on, and nothing after ends it.
pub record IsUnterminatedString (mode : Mode) (rest : List ℕ) : Type 0 where
  pub in_code : InCode mode rest
  pub unclosed : (opens_unclosed rest || goes_on_unclosed (innermost mode.opened) rest) ≡ true

-- There a command begins, and nothing after ends it.
pub record IsUnterminatedBacktick (mode : Mode) (rest : List ℕ) : Type 0 where
  pub in_code : InCode mode rest
  pub backtick : first rest ≡ 96
  pub unclosed : is_unclosed false 0 rest ≡ true

-- In an expression of a body line the text or the line ends, or a backslash stands in front of its end.
pub record IsUnterminatedInterpolation (mode : Mode) (rest : List ℕ) : Type 0 where
  pub in_body : is_in_body mode.line ≡ true
  pub inside : is_some (innermost mode.opened) ≡ true
  pub ends : breaks_off rest ≡ true

-- In code a bracket closes that isn't the innermost that is open.
pub record IsMismatched (opener closer : Delimiter) (mode : Mode) (rest : List ℕ) : Type 0 where
  pub in_code : InCode mode rest
  pub closes : first rest ≡ closing closer
  pub opened : innermost mode.opened ≡ Some (Bracket opener)
  pub other : opener ≢ closer

-- the innermost that is open is a bracket
abbrev pub is_in_bracket : Option Open → Bool
is_in_bracket (Some (Bracket _)) = true
is_in_bracket _ = false

-- In code a bracket closes where none was opened since the expression began, and it doesn't end the expression.
pub record IsUnexpectedClosing (closer : Delimiter) (mode : Mode) (rest : List ℕ) : Type 0 where
  pub in_code : InCode mode rest
  pub closes : first rest ≡ closing closer
  pub none_open : is_in_bracket (innermost mode.opened) ≡ false
  pub no_end : (is_some (innermost mode.opened) && at_closing_braces rest) ≡ false

-- A body may begin with this line, which isn't blank, and its leading white space has spaces and tabs.
pub record IsMixedIndentation (mode : Mode) (rest : List ℕ) : Type 0 where
  pub may_begin : mode.line ≡ Start true
  pub indented : is_indented rest ≡ true
  pub mixed : is_mixed rest ≡ true

-- This line of a body isn't blank, and begins with other white space than the body's indentation.
pub record IsOtherIndentation (mode : Mode) (rest : List ℕ) : Type 0 where
  pub indentation : Indentation
  pub in_body : mode.line ≡ BodyStart indentation
  pub indented : is_indented rest ≡ true
  pub other : has_indentation indentation rest ≡ false

-- why no token stands at the place
abbrev pub Reason : CompileErrorKind → Mode → List ℕ → Type 0
Reason (UnknownStartOfToken c) mode rest = IsUnknownStart c mode rest
Reason (UnexpectedCharacter c) mode rest = IsAlone c mode rest
Reason UnterminatedString mode rest = IsUnterminatedString mode rest
Reason UnterminatedBacktick mode rest = IsUnterminatedBacktick mode rest
Reason UnterminatedInterpolation mode rest = IsUnterminatedInterpolation mode rest
Reason (InvalidEscapeSequence escape) mode rest = IsInvalidEscape escape mode rest
Reason (MismatchedClosingDelimiter opener closer) mode rest = IsMismatched opener closer mode rest
Reason (UnexpectedClosingDelimiter closer) mode rest = IsUnexpectedClosing closer mode rest
Reason UnpairedCarriageReturn mode rest = IsUnpairedReturn mode rest
Reason MixedLeadingWhitespace mode rest = IsMixedIndentation mode rest
Reason InconsistentLeadingWhitespace mode rest = IsOtherIndentation mode rest
Reason _ mode rest = ⊥

-- After some tokens of the text, at this position, no token stands, for the reason that the kind says.
pub record HasFault (src : List ℕ) (kind : CompileErrorKind) (at : Position) : Type 0 where
  pub before : List Piece
  pub each : AllTokens (start src) before
  pub place : Place
  pub reached : fold behind (start src) before ≡ place
  pub here : place.at ≡ at
  pub none_fits : (k : TokenKind) (n : ℕ) → IsLongest place.mode place.rest k n → ⊥
  pub reason : Reason kind place.mode place.rest

-- The text has the fault where the refusal's token stands, which is empty.
pub record IsRefused (path src : List ℕ) (kind : CompileErrorKind) (token : Token) : Type 0 where
  pub fault : HasFault src kind (position_of token)
  pub empty : token.length ≡ 0
  pub of_path : token.path.now ≡ path
  pub of_src : token.src.now ≡ src

-- the fault stands in the text; where memory ran out nothing is claimed
abbrev pub FaultStands : List ℕ → List ℕ → CompileErrorKind → Token → Type 0
FaultStands path src OutOfMemory token = Unit {0}
FaultStands path src kind token = IsRefused path src kind token
