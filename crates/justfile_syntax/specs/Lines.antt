-- Lines outside bodies.
use Rattle.std.specs.Prelude.{◌≡◌, ℕ, Bool, true, false, List, [], ◌∷◌, ◌++◌, None, codes}
use Rattle.just_text.specs.Tokens.{Word}
use Rattle.just_text.specs.declared.delimiter.Delimiter.{Delimiter}
use Rattle.just_text.specs.declared.token_kind.TokenKind.{TokenKind}
use Rattle.just_text.specs.declared.token_kind.TokenKind.TheVariants.{Colon, Comment, Eof, Eol, Whitespace}
use Rattle.just_lexer.specs.declared.mode.Open.TheVariants.{Bracket}
use Rattle.just_lexer.specs.declared.mode.Line.TheVariants.{Start, Inside, Over}
use Rattle.just_lexer.specs.Modes.{Mode}
use Rattle.just_lexer.specs.Lexes.{start}
use Rattle.justfile_syntax.specs.Words.{LexesFrom}
use Rattle.justfile_syntax.specs.Fits.{is_lexeme, keeps_apart, goes_no_further, fits_code}
use Rattle.justfile_syntax.specs.InCode.{word, is_plain, opener, within}
use Rattle.just_lexer.specs.Classes.{first}

-- at the start of a line outside bodies, and whether a body may begin there
abbrev pub at_line : Bool → Mode
at_line may = record { line = Start may; opened = [] }

-- after the first word of such a line, and whether a body may come after it
abbrev pub in_line : Bool → Mode
in_line may = record { line = Inside may; opened = [] }

-- after the last token
abbrev pub at_text_end : Mode
at_text_end = record { line = Over; opened = [] }

-- the start of the text is like a line's start
abbrev pub StartsLikeALine : Type 0
StartsLikeALine = (w : Word) (ws : List Word) (rest : List ℕ) (to : Mode) → LexesFrom (at_line false) (w ∷ ws) rest to → LexesFrom (start []).mode (w ∷ ws) rest to

-- a plain word that is neither white space nor a comment
abbrev pub begins_line : TokenKind → Bool
begins_line Comment = false
begins_line Whitespace = false
begins_line k = is_plain k

-- at a line's start such a word leads into the line
abbrev pub LinesBegin : Type 0
LinesBegin = (may : Bool) (w : Word) (rest : List ℕ) → begins_line w.kind ≡ true → fits_code None w rest ≡ true → LexesFrom (at_line may) (w ∷ []) rest (in_line false)

-- and an opening bracket into the bracket in the line
abbrev pub BracketsBegin : Type 0
BracketsBegin = (may : Bool) (d : Delimiter) (rest : List ℕ) → LexesFrom (at_line may) (opener d ∷ []) rest (within (in_line false) (Bracket d))

-- after a `:` in a line a body may come
abbrev pub ColonsAnnounce : Type 0
ColonsAnnounce = (may : Bool) (rest : List ℕ) → goes_no_further Colon (first rest) ≡ true → LexesFrom (in_line may) (word Colon (codes ":") ∷ []) rest (in_line true)

-- a line end leads to the next line
abbrev pub LinesEnd : Type 0
LinesEnd = (may : Bool) (end rest : List ℕ) → is_lexeme None Eol end ≡ true → LexesFrom (in_line may) (word Eol end ∷ []) rest (at_line may)

-- an empty line leads to the next, and a body may still come
abbrev pub EmptyLines : Type 0
EmptyLines = (may : Bool) (end rest : List ℕ) → is_lexeme None Eol end ≡ true → LexesFrom (at_line may) (word Eol end ∷ []) rest (at_line may)

-- so does a line that is a comment
abbrev pub CommentLines : Type 0
CommentLines = (may : Bool) (text end rest : List ℕ) → is_lexeme None Comment text ≡ true → is_lexeme None Eol end ≡ true → keeps_apart Comment text (end ++ rest) ≡ true → LexesFrom (at_line may) (word Comment text ∷ word Eol end ∷ []) rest (at_line may)

-- at a line's start, before nothing, stands the end of the text
abbrev pub TextsEnd : Type 0
TextsEnd = (may : Bool) → LexesFrom (at_line may) (word Eof [] ∷ []) [] at_text_end
