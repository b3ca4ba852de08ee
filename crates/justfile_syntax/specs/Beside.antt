-- Words of code side by side.
use Rattle.std.specs.Prelude.{◌≡◌, ℕ, Bool, true, false, not, List, [], ◌∷◌, ◌++◌, Option, None, codes}
use Rattle.just_text.specs.Tokens.{Word}
use Rattle.just_text.specs.declared.token_kind.TokenKind.{TokenKind}
use Rattle.just_text.specs.declared.token_kind.TokenKind.TheVariants.{Comment, FormatStringContinue, Whitespace}
use Rattle.just_lexer.specs.declared.mode.Open.{Open}
use Rattle.just_lexer.specs.Classes.{first, is_blank}
use Rattle.just_lexer.specs.Modes.{Mode}
use Rattle.justfile_syntax.specs.Words.{LexesFrom}
use Rattle.justfile_syntax.specs.Fits.{is_lexeme, keeps_apart}
use Rattle.justfile_syntax.specs.Table.{may_precede, is_break}
use Rattle.justfile_syntax.specs.InCode.{word, is_code, is_plain}

-- names, strings, commands and marks: plain words that are neither white space, nor a comment, nor a part of a format string
abbrev pub is_simple : TokenKind → Bool
is_simple Comment = false
is_simple FormatStringContinue = false
is_simple Whitespace = false
is_simple k = is_plain k

-- in code such a word leads on before a byte that no word, mark or string goes on with, or before nothing
abbrev pub LeadsToBreaks : Type 0
LeadsToBreaks = (m : Mode) (w : Word) (rest : List ℕ) → is_code m ≡ true → is_simple w.kind ≡ true → is_lexeme None w.kind w.text ≡ true → is_break (first rest) ≡ true → LexesFrom m (w ∷ []) rest m

-- and before a token that may stand after it
abbrev pub LeadsToNext : Type 0
LeadsToNext = (m : Mode) (w next : Word) (behind : Option Open) (rest : List ℕ) → is_code m ≡ true → is_simple w.kind ≡ true → is_lexeme None w.kind w.text ≡ true → may_precede w.kind next.kind ≡ true → is_lexeme behind next.kind next.text ≡ true → keeps_apart next.kind next.text rest ≡ true
    → LexesFrom m (w ∷ []) (next.text ++ rest) m

-- in code a space leads on before anything but white space
abbrev pub SpacesLeadOn : Type 0
SpacesLeadOn = (m : Mode) (rest : List ℕ) → is_code m ≡ true → not (is_blank (first rest)) ≡ true → LexesFrom m (word Whitespace (codes " ") ∷ []) rest m
