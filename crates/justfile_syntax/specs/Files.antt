-- The grammar of files.
use Rattle.std.specs.Prelude.{ℕ, zero, suc, ◌≡◌, ◌⊎◌, List, [], ◌∷◌, ◌++◌}
use Rattle.std.specs.Str.{trim_end}
use Rattle.just_text.specs.Tokens.{Word}
use Rattle.just_text.specs.declared.token_kind.TokenKind.TheVariants.{ByteOrderMark, Comment, Eof, Eol}
use Rattle.tree_items.specs.Files.{ItemShape, comment_item, newline_item}
use Rattle.parse_expressions.specs.Literals.{Expansion}
use Rattle.parse_expressions.specs.Words.{Begins, Mark, significant}
use Rattle.parse_expressions.specs.LineEnds.{IsEol}
use Rattle.parse_attributed_items.specs.Items.{IsAttributed}
use Rattle.semver.specs.declared.Version.{Version}

-- an item, and how many blank lines after the body of a recipe belong to the file
abbrev pub Entry : Type 0
Entry = ItemShape × ℕ

-- so many blank lines
abbrev pub newlines : ℕ → List ItemShape
newlines zero = []
newlines (suc n) = newline_item ∷ newlines n

-- the items of a file in order, blank lines among them
abbrev pub items_in : List Entry → List ItemShape
items_in [] = []
items_in ((i, blanks) ∷ es) = i ∷ newlines blanks ++ items_in es

-- up to rest there is a line with a comment alone, whose text ends without white space
abbrev pub IsCommentLine : List ℕ → List Word → List Word → Type 0
IsCommentLine text words rest = (lexeme : List ℕ) × (a : List Word) × Begins Comment lexeme words a × IsEol a rest × (text ≡ trim_end lexeme)

-- perhaps a byte order mark, and then rest
abbrev pub IsStart : List Word → List Word → Type 0
IsStart words rest = Mark ByteOrderMark words rest ⊎ (words ≡ rest)

module _ (expansion : Expansion) (current : Version) where
  -- up to rest there is a blank line, a line with a comment alone, or an item after its attributes
  abbrev pub IsEntry : Entry → List Word → List Word → Type 0
  IsEntry (newline_item, blanks) words rest = Mark Eol words rest × (blanks ≡ 0)
  IsEntry (comment_item text, blanks) words rest = IsCommentLine text words rest × (blanks ≡ 0)
  IsEntry (item, blanks) words rest = IsAttributed expansion current item blanks words rest

  -- these stand one after the other, and then the file ends
  abbrev pub AreEntries : List Entry → List Word → Type 0
  AreEntries [] words = Mark Eof words []
  AreEntries (e ∷ es) words = (rest : List Word) × IsEntry e words rest × AreEntries es rest

  -- the words say these items
  pub record Derives (words : List Word) (items : List ItemShape) : Type 0 where
    pub entries : List Entry
    pub behind_mark : List Word
    pub start : IsStart (significant words) behind_mark
    pub stand : AreEntries entries behind_mark
    pub whole : items ≡ items_in entries
