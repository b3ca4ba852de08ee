-- A printed file is read again.
use Rattle.std.specs.Prelude.{◌≡◌, ℕ, true, false, List, []}
use Rattle.just_text.specs.Tokens.{Word}
use Rattle.just_text.specs.declared.token_kind.TokenKind.TheVariants.{Indent}
use Rattle.tree_items.specs.Files.{ItemShape, recipe_item, is_blank, file_text}
use Rattle.tree_items.specs.Lines.{Piece}
use Rattle.parse_expressions.specs.Literals.{Expansion}
use Rattle.parse_expressions.specs.Words.{Lacks, significant}
use Rattle.parse_recipes.specs.Bodies.{behind_blank_lines}
use Rattle.justfile_syntax.specs.Bodies.{is_indentation}
use Rattle.justfile_syntax.specs.Files.{IsEntry}
use Rattle.justfile_syntax.specs.Reads.{Reads}
use Rattle.semver.specs.declared.Version.{Version}
use Rattle.laws_printing.specs.Printing.Attributes.{AllOf}
use Rattle.laws_printing.specs.Printing.Normal.{normal, taken}
use Rattle.laws_printing.specs.Formatting.FileWords.{blanks_left, item_words}
use Rattle.laws_printing.specs.Formatting.Written.{is_item_written}

abbrev pub body_of : ItemShape → List (List Piece)
body_of (recipe_item attributes r) = r.body
body_of item = []

-- after blank lines and comments nothing is indented
abbrev pub Outdented : List Word → Type 0
Outdented after = Lacks Indent (behind_blank_lines (significant after))

-- before what is not indented the printed words of an item, and so many blank lines, derive it
abbrev pub IsRespelled : Expansion → Version → List ℕ → ItemShape → Type 0
IsRespelled expansion version indentation item =
    (n : ℕ) (after : List Word) → Outdented after → IsEntry expansion version (item, taken (body_of item) n) (significant (item_words indentation item n after)) (significant (blanks_left (body_of item) n after))

-- an item whose printed words are tokens and derive it
pub record IsPrintedBack (expansion : Expansion) (version : Version) (indentation : List ℕ) (item : ItemShape) : Type 0 where
  pub written : is_item_written item ≡ true
  pub spelled : IsRespelled expansion version indentation item

-- so are all but blank lines
abbrev pub ArePrintedBack : Expansion → Version → List ℕ → List ItemShape → Type 0
ArePrintedBack expansion version indentation items = AllOf (λ item. is_blank item ≡ false → IsPrintedBack expansion version indentation item) items

-- a file of such items is printed so that its text says its normal shape
abbrev pub FilesPrintBack : Type 0
FilesPrintBack = (expansion : Expansion) (version : Version) (indentation : List ℕ) (items : List ItemShape) → is_indentation indentation ≡ true → ArePrintedBack expansion version indentation items → Reads expansion version (file_text indentation items) (normal items)
