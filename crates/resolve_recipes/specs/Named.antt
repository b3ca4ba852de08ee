-- What stands under a name in a compilation, and the order in which it is looked up.
use Rattle.std.specs.Prelude.{◌≡◌, ℕ, List, Option, Some, None, map, slice_get}
use Rattle.std.specs.List.{All, find}
use Rattle.std.specs.List.Sorted.{IsSortedByKey}
use Rattle.std.specs.Option.{option_and_then}
use Rattle.std.specs.Ordering.{nat_cmp, ordering_then}
use Rattle.std.specs.Str.{bytes_eq}
use Rattle.std.specs.declared.cmp.Ordering.{Ordering}
use Rattle.modules_compilation.specs.Places.{name_at, text_of}
use Rattle.modules_compilation.specs.Tables.{text_cmp}
use Rattle.modules_compilation.specs.declared.compilation.Compilation.{Compilation}
use Rattle.modules_compilation.specs.declared.module_node.ModuleNode.{ModuleNode}
use Rattle.modules_compilation.specs.declared.place.Place.{Place}
use Rattle.modules_compilation.specs.declared.recipe_name.RecipeName.{RecipeName}
use Rattle.modules_compilation.specs.Fronts.{front_of}

-- the first of these that has the name
abbrev pub first_named : {X : Type 0} → (X → List ℕ) → List X → List ℕ → Option X
first_named text xs name = find (λ x. bytes_eq (text x) name) xs

-- they stand in byte order of their names
abbrev pub AreByName : {X : Type 0} → (X → List ℕ) → List X → Type 0
AreByName text xs = IsSortedByKey text text_cmp xs

-- the name's text of the item at a place, empty where it has none
abbrev pub text_at : Compilation → Place → List ℕ
text_at compilation place = text_of (name_at compilation place)

-- the text of a module's own name, empty where it has none
abbrev pub module_text : List ModuleNode → ℕ → List ℕ
module_text modules place = text_of (option_and_then (λ node. node.name) (slice_get modules place))

-- the submodule of this name that a module may have
abbrev pub submodule_of : List ModuleNode → Option ModuleNode → List ℕ → Option ℕ
submodule_of modules None name = None
submodule_of modules (Some node) name = first_named (module_text modules) node.submodules.items name

-- the submodule of this name of the module at a place
abbrev pub submodule_in : List ModuleNode → ℕ → List ℕ → Option ℕ
submodule_in modules place name = submodule_of modules (slice_get modules place) name

-- the recipe of this name that a module may keep
abbrev pub recipe_of : Compilation → Option ModuleNode → List ℕ → Option Place
recipe_of compilation None name = None
recipe_of compilation (Some node) name = first_named (text_at compilation) node.recipes.items name

-- a recipe's name in the order in which it is looked up: its front and its text
abbrev pub row_key : Compilation → RecipeName → ℕ × List ℕ
row_key compilation row = (row.front, text_at compilation row.place)

-- by the front and then by the text
abbrev pub key_cmp : ℕ × List ℕ → ℕ × List ℕ → Ordering
key_cmp a b = ordering_then (nat_cmp a.0 b.0) (text_cmp a.1 b.1)

-- the front is that of the text
abbrev pub HasFront : Compilation → RecipeName → Type 0
HasFront compilation row = row.front ≡ front_of (text_at compilation row.place)

-- they have their fronts, and stand by these and then by their texts
abbrev pub AreByFront : Compilation → List RecipeName → Type 0
AreByFront compilation rows = All (HasFront compilation) rows × IsSortedByKey (row_key compilation) key_cmp rows

abbrev pub places_of : List RecipeName → List Place
places_of rows = map (λ row. row.place) rows

-- A module's recipes stand in the order in which they are looked up, and its variables, disabled recipes and submodules in byte order of their names.
pub record IsByName (compilation : Compilation) (node : ModuleNode) : Type 0 where
  pub recipes : AreByFront compilation node.recipe_names.items
  pub places : places_of node.recipe_names.items ≡ node.recipes.items
  pub variables : AreByName (text_at compilation) node.assignments.items
  pub disabled : AreByName (text_at compilation) node.disabled.items
  pub submodules : AreByName (module_text compilation.modules.items) node.submodules.items

-- those of all modules
abbrev pub AllByName : Compilation → Type 0
AllByName compilation = (place : ℕ) (node : ModuleNode) → slice_get compilation.modules.items place ≡ Some node → IsByName compilation node
