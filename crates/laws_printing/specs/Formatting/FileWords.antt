-- The words of a printed file.
use Rattle.std.specs.Prelude.{◌≡◌, ℕ, zero, suc, ◌+◌, Bool, true, false, List, [], ◌∷◌, ◌++◌, if◌then◌else◌}
use Rattle.std.specs.List.{list_all}
use Rattle.just_text.specs.Tokens.{Word}
use Rattle.just_text.specs.declared.token_kind.TokenKind.TheVariants.{Comment, Eof}
use Rattle.tree_items.specs.Files.{ItemShape, alias_item, assignment_item, comment_item, function_item, import_item, module_item, newline_item, recipe_item, set_item, unexport_item, attributes_of, is_blank, item_text, file_text}
use Rattle.tree_items.specs.Lines.{Piece}
use Rattle.justfile_syntax.specs.Words.{joined}
use Rattle.laws_printing.specs.Printing.Words.{word}
use Rattle.laws_printing.specs.Printing.ItemWords.{newline, alias_words, assignment_words, import_words}
use Rattle.laws_printing.specs.Printing.MoreItems.{unexport_words, module_words, function_words, set_words}
use Rattle.laws_printing.specs.Printing.Attributes.{attributes_words}
use Rattle.laws_printing.specs.Printing.Normal.{cut, recipe_words}

-- so many blank lines
abbrev pub blank_words : ℕ → List Word → List Word
blank_words zero rest = rest
blank_words (suc n) rest = newline ∷ blank_words n rest

-- the blank lines after a recipe without a body
abbrev pub blanks_left : List (List Piece) → ℕ → List Word → List Word
blanks_left [] n rest = blank_words n rest
blanks_left (line ∷ lines) n rest = rest

-- an item without its attributes, its line's end, and so many blank lines
abbrev pub bare_words : List ℕ → ItemShape → ℕ → List Word → List Word
bare_words indentation (alias_item attributes a) n rest = alias_words a (newline ∷ blank_words n rest)
bare_words indentation (assignment_item attributes a) n rest = assignment_words a (newline ∷ blank_words n rest)
bare_words indentation (comment_item text) n rest = word Comment text ∷ newline ∷ blank_words n rest
bare_words indentation (function_item f) n rest = function_words f (newline ∷ blank_words n rest)
bare_words indentation (import_item i) n rest = import_words i (newline ∷ blank_words n rest)
bare_words indentation (module_item attributes m) n rest = module_words m (newline ∷ blank_words n rest)
bare_words indentation newline_item n rest = newline ∷ blank_words n rest
bare_words indentation (recipe_item attributes r) n rest = recipe_words indentation r n (blanks_left r.body n rest)
bare_words indentation (set_item attributes s) n rest = set_words s (newline ∷ blank_words n rest)
bare_words indentation (unexport_item name) n rest = unexport_words name (newline ∷ blank_words n rest)

-- an item after its attributes, and so many blank lines
abbrev pub item_words : List ℕ → ItemShape → ℕ → List Word → List Word
item_words indentation item n rest = attributes_words (attributes_of item) (bare_words indentation item n rest)

-- an item, and how many blank lines stand before it, two at most
abbrev pub Spaced : Type 0
Spaced = ℕ × ItemShape

-- items after so many blank lines, those after the last item left out
unfoldable pub spaced : ℕ → List ItemShape → List Spaced
spaced blank [] = []
spaced blank (item ∷ items) = if is_blank item then spaced (blank + 1) items else (cut blank, item) ∷ spaced 0 items

-- how many blank lines stand before the first
abbrev pub lead : List Spaced → ℕ
lead [] = 0
lead ((n, item) ∷ ps) = n

-- items from the first on, each with the blank lines after it, and the end of the file
abbrev pub spaced_words : List ℕ → List Spaced → List Word
spaced_words indentation [] = word Eof [] ∷ []
spaced_words indentation ((n, item) ∷ ps) = item_words indentation item (lead ps) (spaced_words indentation ps)

abbrev pub all_words : List ℕ → List Spaced → List Word
all_words indentation ps = blank_words (lead ps) (spaced_words indentation ps)

-- a file
abbrev pub file_words : List ℕ → List ItemShape → List Word
file_words indentation items = all_words indentation (spaced 0 items)

-- so many line ends
abbrev pub line_ends : ℕ → List ℕ
line_ends zero = []
line_ends (suc n) = 10 ∷ line_ends n

-- the first line of a body isn't empty
abbrev pub starts_full : List (List Piece) → Bool
starts_full ([] ∷ lines) = false
starts_full lines = true

abbrev pub is_full : ItemShape → Bool
is_full (recipe_item attributes r) = starts_full r.body
is_full item = true

-- the text of an item's words is the item's text and line ends
abbrev pub TextsOfItems : Type 0
TextsOfItems = (indentation : List ℕ) (item : ItemShape) (n : ℕ) (after : List Word) (rest : List ℕ) → is_full item ≡ true → is_blank item ≡ false → joined (item_words indentation item n after) rest ≡ item_text indentation item ++ (line_ends (suc n) ++ joined after rest)

-- the text of a file's words is the file's text
abbrev pub TextsOfFiles : Type 0
TextsOfFiles = (indentation : List ℕ) (items : List ItemShape) → list_all is_full items ≡ true → joined (file_words indentation items) [] ≡ file_text indentation items
