-- Bodies of recipes.
use Rattle.std.specs.Prelude.{◌≡◌, ℕ, Bool, true, false, not, ◌&&◌, ◌||◌, List, [], ◌∷◌, None, codes}
use Rattle.just_text.specs.declared.token_kind.TokenKind.TheVariants.{Dedent, Eol, Indent, InterpolationEnd, InterpolationStart, Text, Whitespace}
use Rattle.just_lexer.specs.declared.mode.Indentation.{Indentation}
use Rattle.just_lexer.specs.declared.mode.Open.TheVariants.{Interpolation}
use Rattle.just_lexer.specs.declared.mode.Line.TheVariants.{BodyStart, BodyLine}
use Rattle.just_lexer.specs.Classes.{first, is_blank, at_braces, at_line_end, is_blank_line, is_mixed}
use Rattle.just_lexer.specs.Modes.{Mode, indentation_of}
use Rattle.justfile_syntax.specs.Words.{LexesFrom}
use Rattle.justfile_syntax.specs.Fits.{is_lexeme, at_end, is_alone}
use Rattle.justfile_syntax.specs.InCode.{word}
use Rattle.justfile_syntax.specs.Lines.{at_line}

-- at the start of a body's line
abbrev pub at_body_line : Indentation → Mode
at_body_line i = record { line = BodyStart i; opened = [] }

-- after its indentation
abbrev pub in_body : Indentation → Mode
in_body i = record { line = BodyLine i; opened = [] }

-- in an expression of it
abbrev pub in_expression : Indentation → Mode
in_expression i = record { line = BodyLine i; opened = Interpolation ∷ [] }

-- some white space of spaces alone or tabs alone
abbrev pub is_indentation : List ℕ → Bool
is_indentation text = is_lexeme None Indent text && not (is_mixed text)

-- where a body may begin, its indentation leads into its first line, before what is neither white space nor a line end nor nothing
abbrev pub BodiesBegin : Type 0
BodiesBegin = (text rest : List ℕ) → is_indentation text ≡ true → not (is_blank (first rest)) ≡ true → not (at_end rest) ≡ true → LexesFrom (at_line true) (word Indent text ∷ []) rest (in_body (indentation_of text))

-- the same indentation leads into a later line, if the line isn't blank
abbrev pub LinesGoOn : Type 0
LinesGoOn = (text rest : List ℕ) → is_indentation text ≡ true → not (is_blank_line rest) ≡ true → LexesFrom (at_body_line (indentation_of text)) (word Whitespace text ∷ []) rest (in_body (indentation_of text))

-- an empty line leads to the next
abbrev pub EmptyBodyLines : Type 0
EmptyBodyLines = (i : Indentation) (end rest : List ℕ) → is_lexeme None Eol end ≡ true → LexesFrom (at_body_line i) (word Eol end ∷ []) rest (at_body_line i)

-- text leads on in its line
abbrev pub TextsGoOn : Type 0
TextsGoOn = (i : Indentation) (text rest : List ℕ) → is_alone None (word Text text) rest ≡ true → LexesFrom (in_body i) (word Text text ∷ []) rest (in_body i)

-- two braces lead into an expression, unless two more follow
abbrev pub ExpressionsOpen : Type 0
ExpressionsOpen = (i : Indentation) (rest : List ℕ) → not (at_braces rest) ≡ true → LexesFrom (in_body i) (word InterpolationStart (codes "{{") ∷ []) rest (in_expression i)

-- and two out of it, before whatever follows
abbrev pub ExpressionsClose : Type 0
ExpressionsClose = (i : Indentation) (rest : List ℕ) → LexesFrom (in_expression i) (word InterpolationEnd (codes "}}") ∷ []) rest (in_body i)

-- a line end leads to the body's next line
abbrev pub BodyLinesEnd : Type 0
BodyLinesEnd = (i : Indentation) (end rest : List ℕ) → is_lexeme None Eol end ≡ true → LexesFrom (in_body i) (word Eol end ∷ []) rest (at_body_line i)

-- before neither white space nor a line end the body ends
abbrev pub BodiesEnd : Type 0
BodiesEnd = (i : Indentation) (rest : List ℕ) → not (is_blank (first rest) || at_line_end rest) ≡ true → LexesFrom (at_body_line i) (word Dedent [] ∷ []) rest (at_line false)
