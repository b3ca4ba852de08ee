-- What a text says is what its formatted text says.
use Rattle.std.specs.Prelude.{◌≡◌, ℕ, true, List}
use Rattle.std.specs.Str.{IsUtf8}
use Rattle.tree_items.specs.Files.{ItemShape, file_text}
use Rattle.tree_items.specs.Printable.{printable}
use Rattle.parse_expressions.specs.Literals.{Expansion}
use Rattle.justfile_syntax.specs.Bodies.{is_indentation}
use Rattle.justfile_syntax.specs.Reads.{Reads}
use Rattle.semver.specs.declared.Version.{Version}
use Rattle.laws_printing.specs.Printing.Normal.{normal}

-- Printable items that a text of UTF-8 says are printed so that their text says their normal shape.
abbrev pub PrintsBack : Type 0
PrintsBack = (expansion : Expansion) (version : Version) (indentation text : List ℕ) (items : List ItemShape) → is_indentation indentation ≡ true → IsUtf8 text → Reads expansion version text items → printable items ≡ true → Reads expansion version (file_text indentation items) (normal items)

-- equal texts come exactly from equal normal shapes
pub record EqualTexts (indentation : List ℕ) (xs ys : List ItemShape) : Type 0 where
  pub shapes : file_text indentation xs ≡ file_text indentation ys → normal xs ≡ normal ys
  pub texts : normal xs ≡ normal ys → file_text indentation xs ≡ file_text indentation ys

-- they do of printable items that texts of UTF-8 say
abbrev pub TextsAreEqual : Type 0
TextsAreEqual = (expansion : Expansion) (version : Version) (indentation text other : List ℕ) (xs ys : List ItemShape) → is_indentation indentation ≡ true → IsUtf8 text → IsUtf8 other → Reads expansion version text xs → Reads expansion version other ys → printable xs ≡ true → printable ys ≡ true → EqualTexts indentation xs ys
