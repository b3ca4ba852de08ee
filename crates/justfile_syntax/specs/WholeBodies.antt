-- A whole body of a recipe: its words, and when they are its tokens.
use Rattle.std.specs.Prelude.{◌≡◌, ℕ, Bool, true, false, not, ◌||◌, ◌==◌, List, [], ◌∷◌, ◌++◌, length, None, codes}
use Rattle.just_text.specs.Tokens.{Word}
use Rattle.just_text.specs.declared.token_kind.TokenKind.TheVariants.{Dedent, Eol, Indent, InterpolationEnd, InterpolationStart, Text, Whitespace}
use Rattle.just_lexer.specs.declared.mode.Indentation.{Indentation}
use Rattle.just_lexer.specs.Classes.{first, is_blank, at_braces, at_line_end, blank_len}
use Rattle.just_lexer.specs.Modes.{indentation_of}
use Rattle.justfile_syntax.specs.Words.{joined, LexesFrom}
use Rattle.justfile_syntax.specs.Fits.{is_lexeme, last_byte, takes_brace}
use Rattle.justfile_syntax.specs.InCode.{word}
use Rattle.justfile_syntax.specs.Lines.{at_line}
use Rattle.justfile_syntax.specs.Bodies.{in_expression, is_indentation}

-- a part of a body's line: text, or the words between an expression's braces
pub data Fragment : Type 0 where
  text : List ℕ → Fragment
  expression : List Word → Fragment

abbrev pub newline : Word
newline = word Eol (10 ∷ [])

-- a part's words
abbrev pub fragment_words : Fragment → List Word
fragment_words (text t) = word Text t ∷ []
fragment_words (expression ws) = word InterpolationStart (codes "{{") ∷ (ws ++ word InterpolationEnd (codes "}}") ∷ [])

-- the words of a line after its indentation, and its end
abbrev pub line_words : List Fragment → List Word
line_words [] = newline ∷ []
line_words (f ∷ fs) = fragment_words f ++ line_words fs

-- the words of further lines; an empty one is its end alone
abbrev pub lines_words : List ℕ → List (List Fragment) → List Word
lines_words indentation [] = []
lines_words indentation ([] ∷ lines) = newline ∷ lines_words indentation lines
lines_words indentation ((f ∷ fs) ∷ lines) = word Whitespace indentation ∷ (line_words (f ∷ fs) ++ lines_words indentation lines)

-- the words of a body: its first line, further ones, and its end
abbrev pub body_words : List ℕ → List Fragment → List (List Fragment) → List Word
body_words indentation line lines = word Indent indentation ∷ (line_words line ++ (lines_words indentation lines ++ word Dedent [] ∷ []))

-- a text ends so that what follows in its line isn't part of it, and no text follows
abbrev pub ends_before : List ℕ → List Fragment → Bool
ends_before t [] = not (last_byte t == 13)
ends_before t (expression ws ∷ fs) = takes_brace t
ends_before t (text u ∷ fs) = false

-- the words are tokens between an expression's braces, and no brace follows the first two
pub record ExpressionFits (i : Indentation) (ws : List Word) : Type 0 where
  pub lexes : (rest : List ℕ) → LexesFrom (in_expression i) ws (codes "}}" ++ rest) (in_expression i)
  pub apart : (rest : List ℕ) → not (at_braces (joined ws (codes "}}" ++ rest))) ≡ true

-- each text is one token, and each expression's words are tokens
abbrev pub FragmentsFit : Indentation → List Fragment → Type 0
FragmentsFit i [] = Unit {0}
FragmentsFit i (text t ∷ fs) = ((is_lexeme None Text t ≡ true) × (ends_before t fs ≡ true)) × FragmentsFit i fs
FragmentsFit i (expression ws ∷ fs) = ExpressionFits i ws × FragmentsFit i fs

-- a line isn't one text of spaces and tabs
abbrev pub shows : List Fragment → Bool
shows (text t ∷ []) = not (blank_len t == length t)
shows _ = true

-- a body's first line begins with no white space, and isn't empty
abbrev pub shows_first : List Fragment → Bool
shows_first [] = false
shows_first (text t ∷ fs) = not (is_blank (first t))
shows_first (expression ws ∷ fs) = true

-- each further line is empty or shows something
abbrev pub LinesFit : Indentation → List (List Fragment) → Type 0
LinesFit i [] = Unit {0}
LinesFit i (fs ∷ lines) = (FragmentsFit i fs × (shows fs ≡ true)) × LinesFit i lines

-- a body's words lead from where it may begin to the line after it, which isn't indented and isn't empty
abbrev pub BodiesLex : Type 0
BodiesLex = (indentation : List ℕ) (line : List Fragment) (lines : List (List Fragment)) (rest : List ℕ) → is_indentation indentation ≡ true → FragmentsFit (indentation_of indentation) line → shows_first line ≡ true → LinesFit (indentation_of indentation) lines
    → not (is_blank (first rest) || at_line_end rest) ≡ true → LexesFrom (at_line true) (body_words indentation line lines) rest (at_line false)
