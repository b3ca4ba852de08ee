-- Parameters of functions and of recipes, whose names differ, and attributes that stand once.
use Rattle.std.specs.Prelude.{◌≡◌, ◌≤◌, ◌<◌, ◌+◌, ℕ, true, List, Some, None, length, map, slice_get}
use Rattle.std.specs.List.{All}
use Rattle.tree_items.specs.Files.{ItemShape, alias_item, assignment_item, comment_item, function_item, import_item, item_shape, module_item, newline_item, recipe_item, set_item, unexport_item}
use Rattle.tree_items.specs.Recipes.{ParameterShape, is_variadic}
use Rattle.parse_expressions.specs.Literals.{Expansion}
use Rattle.parse_recipes.specs.Headers.{parameter_name}
use Rattle.parse_attributed_items.specs.Fitting.{repeated}
use Rattle.justfile_syntax.specs.Reads.{Reads}
use Rattle.semver.specs.declared.Version.{Version}
use Rattle.modules_compilation.specs.declared.compilation.Compilation.{Compilation}
use Rattle.modules_compilation.specs.declared.module_node.File.{File}
use Rattle.modules_compilation.specs.declared.module_node.ModuleNode.{ModuleNode}
use Rattle.modules_compilation.specs.declared.place.Place.{Place}
use Rattle.meaning_rules.specs.Worlds.Given.{Given, Text, World}
use Rattle.meaning_rules.specs.Worlds.Sources.{Reached}
use Rattle.meaning_rules.specs.Worlds.Standing.{StandsFor}
use Rattle.laws_modules.specs.Names.Names.{HasNode, IsOfWorld}

-- the place is in a file of a module
pub record IsOwned (compilation : Compilation) (place : Place) : Type 0 where
  pub number : ℕ
  pub node : ModuleNode
  pub here : slice_get compilation.modules.items number ≡ Some node
  pub from : node.first_file ≤ place.file
  pub to : place.file < node.end_file

-- a name stands at one place of the list at most
abbrev pub AreApartNames : List (List ℕ) → Type 0
AreApartNames names = (i j : ℕ) (a : List ℕ) → slice_get names i ≡ Some a → slice_get names j ≡ Some a → i ≡ j

-- a parameter that takes all values that remain is the last one
abbrev pub IsVariadicLast : List ParameterShape → Type 0
IsVariadicLast parameters = (i : ℕ) (p : ParameterShape) → slice_get parameters i ≡ Some p → is_variadic p.kind ≡ true → i + 1 ≡ length parameters

-- The names of the item's parameters differ, only the last one takes all values that remain, and of a recipe's attributes none stands
-- twice that may stand once. Items but functions and recipes have no parameters.
abbrev pub IsApart : ItemShape → Type 0
IsApart (alias_item attributes a) = Unit {0}
IsApart (assignment_item attributes a) = Unit {0}
IsApart (comment_item text) = Unit {0}
IsApart (function_item f) = AreApartNames f.parameters
IsApart (import_item i) = Unit {0}
IsApart (module_item attributes m) = Unit {0}
IsApart newline_item = Unit {0}
IsApart (recipe_item attributes r) = AreApartNames (map parameter_name r.parameters) × IsVariadicLast r.parameters × (repeated attributes ≡ None)
IsApart (set_item attributes s) = Unit {0}
IsApart (unexport_item name) = Unit {0}

-- so it is of the items that a text says
abbrev pub FilesAreApart : Type 0
FilesAreApart = (expansion : Expansion) (version : Version) (text : Text) (items : List ItemShape) → Reads expansion version text items → All IsApart items

-- so it is of what a file says that is reached
abbrev pub WorldsAreApart : Type 0
WorldsAreApart = (given : Given) (w : World) → StandsFor given w → (key : Text) → Reached w key → (items : List ItemShape) → w.said key ≡ Some items → All IsApart items

-- so it is of the items of each file of a module, blank lines among them
abbrev pub CompilationsAreApart : Type 0
CompilationsAreApart = (given : Given) (w : World) (compilation : Compilation) → StandsFor given w → IsOfWorld w compilation
    → (n : ℕ) (node : ModuleNode) → HasNode w compilation n node
    → (k : ℕ) (file : File) → node.first_file ≤ k → k < node.end_file → slice_get compilation.files.items k ≡ Some file → All (λ item. IsApart (item_shape item)) file.ast.items.items
