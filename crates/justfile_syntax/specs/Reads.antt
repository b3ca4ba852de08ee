-- What a text says.
use Rattle.std.specs.Prelude.{ℕ, ◌⊎◌, List, map}
use Rattle.just_lexer.specs.Lexes.{Piece, piece_word, pieces, Lexes}
use Rattle.just_lexer.specs.Lexed.{AllBorrow, FaultStands, HasFault}
use Rattle.just_lexer.specs.declared.position.Position.{Position}
use Rattle.just_text.specs.Tokens.{word_of}
use Rattle.just_text.specs.declared.compile_error.CompileErrorKind.{CompileErrorKind}
use Rattle.just_text.specs.declared.compile_error.CompileErrorKind.TheVariants.{OutOfMemory, NumbersUsed}
use Rattle.just_text.specs.declared.token.Token.{Token}
use Rattle.tree_items.specs.Files.{ItemShape}
use Rattle.parse_expressions.specs.Literals.{Expansion}
use Rattle.parse_expressions.specs.Reading.{shown}
use Rattle.justfile_syntax.specs.Files.{Derives}
use Rattle.justfile_syntax.specs.Parsed.{HaltsBy}
use Rattle.justfile_syntax.specs.Reading.{file_at}
use Rattle.semver.specs.declared.Version.{Version}

module _ (expansion : Expansion) (current : Version) where
  -- the text says these items: its tokens derive them
  pub record Reads (text : List ℕ) (items : List ItemShape) : Type 0 where
    pub tokens : List Piece
    pub lexed : Lexes text tokens
    pub derived : Derives expansion current (map piece_word tokens) items

  -- the text has tokens, and reading them halts for that reason
  pub record Halts (text : List ℕ) (kind : CompileErrorKind) : Type 0 where
    pub tokens : List Token
    pub lexed : Lexes text (pieces tokens)
    pub token : Token
    pub halts : HaltsBy tokens (file_at word_of expansion current (shown tokens)) token kind

  -- the text says nothing, for the reason that the kind says: it has no tokens, or they derive nothing
  abbrev pub IsSyntaxFault : List ℕ → CompileErrorKind → Type 0
  IsSyntaxFault text OutOfMemory = ⊥
  IsSyntaxFault text NumbersUsed = ⊥
  IsSyntaxFault text kind = ((at : Position) × HasFault text kind at) ⊎ Halts text kind

  -- the text is refused for that reason, unless memory or numbers ran out
  abbrev pub IsRefusal : Type 0 → List ℕ → CompileErrorKind → Type 0
  IsRefusal used text OutOfMemory = Unit {0}
  IsRefusal used text NumbersUsed = used
  IsRefusal used text kind = IsSyntaxFault text kind

  -- reading the text's tokens, which borrow from the path and the text, halts at that token for that reason
  pub record HaltsAt (path text : List ℕ) (token : Token) (kind : CompileErrorKind) : Type 0 where
    pub tokens : List Token
    pub lexed : Lexes text (pieces tokens)
    pub borrowed : AllBorrow path text tokens
    pub halts : HaltsBy tokens (file_at word_of expansion current (shown tokens)) token kind

  -- where a refusal stands: at the lexer's fault, or where reading the tokens halts; want of memory and of numbers has no place
  abbrev pub Stands : List ℕ → List ℕ → Token → CompileErrorKind → Type 0
  Stands path text token OutOfMemory = Unit {0}
  Stands path text token NumbersUsed = Unit {0}
  Stands path text token kind = FaultStands path text kind token ⊎ HaltsAt path text token kind
