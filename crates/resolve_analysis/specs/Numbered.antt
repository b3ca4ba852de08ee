-- What stays as it is where variables get their numbers.
use Rattle.std.specs.List.{All}
use Rattle.std.specs.Prelude.{◌≡◌, ℕ, List, Option, Some, length, map, slice_get}
use Rattle.just_text.specs.declared.name.Name.{Name}
use Rattle.tree_items.specs.declared.ast.Item.{Item}
use Rattle.tree_items.specs.Contexts.{number_in}
use Rattle.tree_items.specs.Files.{item_shape}
use Rattle.tree_items.specs.declared.variables.context.ExpressionContext.{ExpressionContext}
use Rattle.modules_compilation.specs.Places.{name_of}
use Rattle.modules_compilation.specs.declared.compilation.Compilation.{Compilation}
use Rattle.modules_compilation.specs.declared.module_node.File.{File}
use Rattle.resolve_references.specs.Numbered.{IsNumberedItem}
use Rattle.resolve_references.specs.Said.{said_by}
use Rattle.resolve_references.specs.Seen.{HaveNumbers, seen_in}

-- the names of items, in order
abbrev pub names_of : List Item → List (Option Name)
names_of items = map name_of items

-- a file's key, its module, its depth, and the names of its items
pub record FileNames : Type 0 where
  pub key : List ℕ
  pub owner : ℕ
  pub depth : ℕ
  pub names : List (Option Name)

abbrev pub file_names : File → FileNames
file_names file = record { key = file.key.now; owner = file.module; depth = file.depth; names = names_of file.ast.items.items }

-- an item is as it was but for the numbers of its variables
pub record IsSameItem (before after : Item) : Type 0 where
  pub numbered : IsNumberedItem before after
  pub shape : item_shape after ≡ item_shape before
  pub said : said_by (seen_in after) ≡ said_by (seen_in before)

-- the same of all items, place by place
pub record AreSameItems (before after : List Item) : Type 0 where
  pub many : length after ≡ length before
  pub each : (place : ℕ) (old new : Item) → slice_get before place ≡ Some old → slice_get after place ≡ Some new → IsSameItem old new

-- the same of the items of a file
abbrev pub IsSameFile : File → File → Type 0
IsSameFile before after = AreSameItems before.ast.items.items after.ast.items.items

-- the same of all files, place by place
abbrev pub AreSameFiles : List File → List File → Type 0
AreSameFiles before after = (place : ℕ) (old new : File) → slice_get before place ≡ Some old → slice_get after place ≡ Some new → IsSameFile old new

-- each variable of the file has the number of its name in the file's module, if that is there
abbrev pub IsFileNumbered : List ExpressionContext → File → Type 0
IsFileNumbered all file = (names : ExpressionContext) → slice_get all file.module ≡ Some names → All (HaveNumbers (number_in names)) file.ast.items.items

-- the modules are the same, and the files but for the numbers of variables
pub record IsNumbered (before after : Compilation) : Type 0 where
  pub modules : after.modules ≡ before.modules
  pub files : map file_names after.files.items ≡ map file_names before.files.items
  pub items : AreSameFiles before.files.items after.files.items
