-- The normal shape of a file, and the words of a whole recipe.
use Rattle.std.specs.Prelude.{ℕ, zero, suc, ◌+◌, ◌==◌, ◌≡◌, Bool, not, filter, true, List, [], ◌∷◌, ◌++◌, if◌then◌else◌}
use Rattle.std.specs.List.{list_all}
use Rattle.just_text.specs.Tokens.{Word}
use Rattle.just_text.specs.declared.token_kind.TokenKind.TheVariants.{Indent}
use Rattle.tree_items.specs.Files.{ItemShape, is_blank, file_text}
use Rattle.tree_items.specs.Lines.{Piece}
use Rattle.tree_items.specs.Recipes.{RecipeShape}
use Rattle.tree_items.specs.Printable.{is_closed, are_separate, printable}
use Rattle.parse_expressions.specs.Words.{Lacks, significant}
use Rattle.parse_expressions.specs.Literals.{Expansion}
use Rattle.parse_recipes.specs.Bodies.{behind_blank_lines}
use Rattle.parse_recipes.specs.Headers.{IsRecipe}
use Rattle.justfile_syntax.specs.Features.{features_of}
use Rattle.justfile_syntax.specs.Files.{newlines}
use Rattle.laws_printing.specs.Printing.ItemWords.{newline, header_words, body_words}

-- two at most
abbrev pub cut : ℕ → ℕ
cut n = if n == 0 then 0 else if n == 1 then 1 else 2

-- items after blank lines
unfoldable pub normal_after : ℕ → List ItemShape → List ItemShape
normal_after blank [] = []
normal_after blank (item ∷ items) = if is_blank item then normal_after (blank + 1) items else newlines (cut blank) ++ item ∷ normal_after 0 items

-- Runs of blank lines are cut to two, and dropped where no item or comment follows. All else of the normal shape is in the shape already.
abbrev pub normal : List ItemShape → List ItemShape
normal items = normal_after 0 items

-- the text is that of the normal shape
abbrev pub NormalPrintsAlike : Type 0
NormalPrintsAlike = (indentation : List ℕ) (items : List ItemShape) → file_text indentation (normal items) ≡ file_text indentation items

-- so many blank lines in a body
abbrev pub blanks : ℕ → List (List Piece)
blanks zero = []
blanks (suc n) = [] ∷ blanks n

-- the words of a body after which so many blank lines stand
abbrev pub body_before : List ℕ → List (List Piece) → ℕ → List Word → List Word
body_before indentation [] n rest = rest
body_before indentation (line ∷ lines) n rest = body_words indentation ((line ∷ lines) ++ blanks n) rest

-- a body takes the blank lines after it; without one they stand for themselves
abbrev pub taken : List (List Piece) → ℕ → ℕ
taken [] n = 0
taken (line ∷ lines) n = n

-- a recipe after which so many blank lines stand
abbrev pub recipe_words : List ℕ → RecipeShape → ℕ → List Word → List Word
recipe_words indentation r n rest = header_words r (newline ∷ body_before indentation r.body n rest)

-- before what is not indented a recipe is derived again, where no `else` would be taken by what stands before it
abbrev pub RecipesSpell : Type 0
RecipesSpell = (expansion : Expansion) (indentation : List ℕ) (r : RecipeShape) (old n : ℕ) (words rest after : List Word) → IsRecipe expansion r old words rest → are_separate r.parameters ≡ true → list_all is_closed r.priors ≡ true → list_all is_closed r.subsequents ≡ true
    → Lacks Indent (behind_blank_lines (significant after)) → IsRecipe expansion r (taken r.body n) (significant (recipe_words indentation r n after)) (significant after)

-- What all but the listing sees of a file: its items without the blank lines. Formatting leaves it as it is.
abbrev pub is_filled : ItemShape → Bool
is_filled item = not (is_blank item)

-- the items without the blank lines
abbrev pub filled : List ItemShape → List ItemShape
filled items = filter is_filled items

-- which are those of the normal shape
abbrev pub NormalFillsAlike : Type 0
NormalFillsAlike = (items : List ItemShape) → filled (normal items) ≡ filled items

-- a file uses the features that its normal shape uses
abbrev pub NormalUsesAlike : Type 0
NormalUsesAlike = (items : List ItemShape) → features_of (normal items) ≡ features_of items

-- it is printable where its normal shape is
abbrev pub NormalIsPrintable : Type 0
NormalIsPrintable = (items : List ItemShape) → printable (normal items) ≡ printable items
