-- What is defined, by name, where the modules of a compilation keep it by places.
use Rattle.std.specs.Prelude.{ℕ, zero, suc, List, [], ◌∷◌, ◌++◌, Bool, true, false, cond, codes, length, map, slice_get, Option, Some, None}
use Rattle.std.specs.List.{filter_map}
use Rattle.std.specs.Option.{option_and_then, option_map, option_or}
use Rattle.tree_attributes.specs.Settings.{SetShape}
use Rattle.tree_expressions.specs.Shape.{Shape}
use Rattle.tree_items.specs.Files.{ItemShape, alias_item, assignment_item, function_item, item_shape, recipe_item, set_item}
use Rattle.parse_expressions.specs.Literals.{Expansion}
use Rattle.modules_compilation.specs.Modulepaths.{paths_eq, pieces}
use Rattle.modules_compilation.specs.Places.{item_at}
use Rattle.modules_compilation.specs.declared.compilation.Compilation.{Compilation}
use Rattle.modules_compilation.specs.declared.module_node.File.{File}
use Rattle.modules_compilation.specs.declared.module_node.ModuleNode.{ModuleNode}
use Rattle.modules_compilation.specs.declared.place.Place.{Place}
use Rattle.resolve_recipes.specs.Defaults.{default_of}
use Rattle.resolve_recipes.specs.Named.{first_named, module_text, recipe_of, submodule_in, text_at}
use Rattle.meaning_dialogues.specs.Evaluation.{Value}
use Rattle.meaning_rules.specs.Worlds.Given.{Overrides, Text}
use Rattle.meaning_rules.specs.Worlds.Views.{name_text}
use Rattle.meaning_evaluation.specs.Named.{Definitions, FunctionRow, ModuleRow, Modules, RecipeName, RecipeRow, VariableName, VariableRow, a_module, no_module}
use Rattle.just_meaning.specs.Defining.{is_private, named_from}
use Rattle.just_meaning.specs.Rows.{is_true, module_row, recipe_row, setting_named}

-- the lists of a module that may be there
abbrev pub rows_of : {X : Type 0} → (ModuleNode → List X) → Option ModuleNode → List X
rows_of rows None = []
rows_of rows (Some node) = rows node

abbrev pub key_of : Option File → Text
key_of None = []
key_of (Some file) = file.key.now

-- the setting that an item is, if it is one
abbrev pub set_of : Option ItemShape → Option SetShape
set_of (Some (set_item attributes s)) = Some s
set_of other = None

-- the recipe that the alias stands for which an item of a module is
abbrev pub target_of : List Text → Option ItemShape → Option RecipeName
target_of path (Some (alias_item attributes alias)) = Some (named_from path alias.target)
target_of path other = None

-- the rows of what an item of the file with a key is
abbrev pub variable_of : Text → Option ItemShape → Option VariableRow
variable_of key (Some (assignment_item attributes a)) = Some (record { file = key; value = a.value; export = a.export; eager = a.eager; private = is_private attributes a.name })
variable_of key other = None

abbrev pub function_of : Text → Option ItemShape → Option FunctionRow
function_of key (Some (function_item f)) = Some (record { file = key; name = f.name; parameters = f.parameters; body = f.body })
function_of key other = None

abbrev pub recipe_in : Expansion → List Text → Bool → Text → Option ItemShape → Option RecipeRow
recipe_in expansion path passes key (Some (recipe_item attributes r)) = Some (recipe_row expansion key passes (λ dependency. named_from path dependency.path) attributes r)
recipe_in expansion path passes key other = None

-- the text given last for what these names name
abbrev pub given_last : Overrides → List Text → Option Text
given_last [] names = None
given_last (given ∷ others) names = option_or (given_last others names) (cond (paths_eq (pieces given.0) names) (Some given.1) None)

abbrev pub if_kept : {X Y : Type 0} → Option X → Option Y → Option Y
if_kept None other = None
if_kept (Some x) other = other

abbrev pub is_root : List Text → Bool
is_root [] = true
is_root (name ∷ names) = false

module _ (compilation : Compilation) where
  -- ---- modules

  -- the place of the module to which names lead from the one at a place
  abbrev pub place_from : ℕ → List Text → Option ℕ
  place_from k [] = Some k
  place_from k (name ∷ names) = option_and_then (λ inner. place_from inner names) (submodule_in compilation.modules.items k name)

  -- the place of the module at a path
  abbrev pub place_of : List Text → Option ℕ
  place_of path = place_from 0 path

  abbrev pub node_of : List Text → Option ModuleNode
  node_of path = option_and_then (slice_get compilation.modules.items) (place_of path)

  -- modules beside each other, each with those below it
  abbrev pub beside : (ℕ → Modules) → List ℕ → Modules
  beside below [] = no_module
  beside below (k ∷ ks) = a_module (module_text compilation.modules.items k) (below k) (beside below ks)

  -- those below the module at a place, so many levels deep
  abbrev pub modules_below : ℕ → ℕ → Modules
  modules_below zero k = no_module
  modules_below (suc levels) k = beside (modules_below levels) (rows_of (λ node. node.submodules.items) (slice_get compilation.modules.items k))

  -- none lies deeper than there are modules
  abbrev pub all_modules : Modules
  all_modules = modules_below (length compilation.modules.items) 0

  -- ---- items

  abbrev pub key_at : Place → Text
  key_at place = key_of (slice_get compilation.files.items place.file)

  abbrev pub shape_at : Place → Option ItemShape
  shape_at place = option_map item_shape (item_at compilation place)

  -- the settings that a module keeps
  abbrev pub sets_of : ModuleNode → List SetShape
  sets_of node = filter_map (λ place. set_of (shape_at place)) node.sets.items

  -- whether a module passes the values of parameters as words
  abbrev pub passes : Option ModuleNode → Bool
  passes None = false
  passes (Some node) = is_true (setting_named (codes "positional-arguments") (sets_of node))

  -- ---- what names stand for in the module at a path

  abbrev pub recipe_named : Expansion → RecipeName → Option RecipeRow
  recipe_named expansion r = option_and_then (λ place. recipe_in expansion r.path (passes (node_of r.path)) (key_at place) (shape_at place)) (recipe_of compilation (node_of r.path) r.recipe)

  abbrev pub alias_named : RecipeName → Option RecipeName
  alias_named r = option_and_then (λ place. target_of r.path (shape_at place)) (first_named (text_at compilation) (rows_of (λ node. node.aliases.items) (node_of r.path)) r.recipe)

  abbrev pub default_at : List Text → Option RecipeName
  default_at path = option_map (λ place. record { path = path; recipe = text_at compilation place }) (option_and_then (default_of compilation) (node_of path))

  abbrev pub names_at : List Text → List Text
  names_at path = map (text_at compilation) (rows_of (λ node. node.assignments.items) (node_of path))

  abbrev pub variable_named : VariableName → Option VariableRow
  variable_named x = option_and_then (λ place. variable_of (key_at place) (shape_at place)) (first_named (text_at compilation) (rows_of (λ node. node.assignments.items) (node_of x.path)) x.name)

  abbrev pub override_of : Overrides → VariableName → Option Text
  override_of o x = if_kept (variable_named x) (given_last o (x.path ++ x.name ∷ []))

  abbrev pub functions_at : List Text → List FunctionRow
  functions_at path = filter_map (λ place. function_of (key_at place) (shape_at place)) (rows_of (λ node. node.functions.items) (node_of path))

  -- ---- rows of modules

  -- the row of the module at a path, the expressions of whose settings settle so, by the place of the module
  abbrev pub row_of : (ℕ → Shape → Value) → Text → Text → List Text → ℕ → Option ModuleNode → Option ModuleRow
  row_of settle base working path k None = None
  row_of settle base working path k (Some node) = Some (module_row (settle k) base working (is_root path) node.source.now (map name_text node.unexports.items) (sets_of node))

  abbrev pub row_at : (ℕ → Shape → Value) → Text → Text → List Text → Option ModuleRow
  row_at settle base working path = option_and_then (λ k. row_of settle base working path k (slice_get compilation.modules.items k)) (place_of path)

  -- all of it: with what strings expand to, the overrides, what expressions of settings settle to, the folder that keys stand in and the one that the root works in
  abbrev pub definitions_of : Expansion → Overrides → (ℕ → Shape → Value) → Text → Text → Definitions
  definitions_of expansion o settle base working = record {
    modules = all_modules;
    recipe = recipe_named expansion;
    alias = alias_named;
    default = default_at;
    names = names_at;
    variable = variable_named;
    override = override_of o;
    functions = functions_at;
    inside = row_at settle base working;
  }
