-- Modules, by the names from the root on, and their files in reading order.
use Rattle.std.specs.Prelude.{◌≡◌, ◌⊎◌, ℕ, ◌≤◌, ◌<◌, cond, List, ◌∷◌, ◌++◌, Option, Some, None, Result, Ok, Err, slice_get, Contains, []}
use Rattle.std.specs.List.{filter_map}
use Rattle.tree_expressions.specs.Cooking.{cooked}
use Rattle.tree_items.specs.Files.{ItemShape, import_item}
use Rattle.modules_compilation.specs.Paths.{key_from}
use Rattle.meaning_rules.specs.Worlds.Given.{Text, World}
use Rattle.meaning_rules.specs.Worlds.Order.{IsInOrder, IsNamedBefore}
use Rattle.meaning_rules.specs.Worlds.Sources.{Imports, IsDepth, IsFileOf, IsSubmodule}

module _ (w : World) where
  abbrev pub if_there : Option Text → Option Text
  if_there None = None
  if_there (Some key) = cond (w.there key) (Some key) None

  abbrev pub key_written : {E : Type 0} → Text → Result Text E → Option Text
  key_written file (Ok path) = if_there (key_from file path)
  key_written file (Err refused) = None

  -- the file that an item of a file imports, if it is an import whose file is there
  abbrev pub import_of : Text → ItemShape → Option Text
  import_of file (import_item line) = key_written file (cooked w.expansion line.path)
  import_of file other = None

  abbrev pub imports_in : Text → Option (List ItemShape) → List Text
  imports_in file None = []
  imports_in file (Some items) = filter_map (import_of file) items

  -- the files that a file imports, in their order; one that says nothing imports none
  abbrev pub imports_of : Text → List Text
  imports_of file = imports_in file (w.said file)

  -- the module at this path has this file as its own
  pub data IsModule : List Text → Text → Type 0 where
    root : IsModule [] w.root
    inside : {path : List Text} {own file name key : Text} → IsModule path own → IsFileOf w own file → IsSubmodule w file name key → IsModule (path ++ name ∷ []) key

-- A module's files in reading order. (By depth, then by order of the imports, as laws say below.)
abbrev pub IsReadingOrder : World → Text → List Text → Type 0
IsReadingOrder w own files = IsInOrder (imports_of w) own files

-- ---- laws: what a reader is to know of reading orders

-- a file's row is what it imports
abbrev pub RowsAreImports : Type 0
RowsAreImports = (w : World) (file other : Text) → (Contains (imports_of w file) other → Imports w file other) × (Imports w file other → Contains (imports_of w file) other)

-- an order has the files of the module, and no others
abbrev pub OrdersHaveReached : Type 0
OrdersHaveReached = (w : World) (own : Text) (files : List Text) → IsReadingOrder w own files → (file : Text) → (Contains files file → IsFileOf w own file) × (IsFileOf w own file → Contains files file)

-- each of them once
abbrev pub OrdersHaveOnce : Type 0
OrdersHaveOnce = (w : World) (own : Text) (files : List Text) → IsReadingOrder w own files → (i j : ℕ) (file : Text) → slice_get files i ≡ Some file → slice_get files j ≡ Some file → i ≡ j

-- no file stands before one of lesser depth
abbrev pub OrdersAreByDepth : Type 0
OrdersAreByDepth = (w : World) (own : Text) (files : List Text) → IsReadingOrder w own files
    → (i j : ℕ) (a b : Text) (m n : ℕ) → i ≤ j → slice_get files i ≡ Some a → slice_get files j ≡ Some b → IsDepth w own a m → IsDepth w own b n → m ≤ n

-- a file at a place imports the first, and stands before each that imports the second; or is that one, and names the first before the second
pub record IsImportedBefore (w : World) (files : List Text) (a b : Text) : Type 0 where
  pub place : ℕ
  pub importer : Text
  pub found : slice_get files place ≡ Some importer
  pub imported : Imports w importer a
  pub before : (q : ℕ) (other : Text) → slice_get files q ≡ Some other → Imports w other b → (place < q) ⊎ ((place ≡ q) × IsNamedBefore (imports_of w importer) a b)

-- of two files after the module's own the one stands first that is imported first
abbrev pub OrdersAreByImports : Type 0
OrdersAreByImports = (w : World) (own : Text) (files : List Text) → IsReadingOrder w own files
    → (i j : ℕ) (a b : Text) → 0 < i → i < j → slice_get files i ≡ Some a → slice_get files j ≡ Some b → IsImportedBefore w files a b

-- a module has one reading order at most
abbrev pub OrdersAreUnique : Type 0
OrdersAreUnique = (w : World) (own : Text) (files others : List Text) → IsReadingOrder w own files → IsReadingOrder w own others → files ≡ others
