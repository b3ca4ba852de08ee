-- Modules as they are printed.
use Rattle.std.specs.Prelude.{ℕ, ◌==◌, ◌&&◌, Bool, List, [], ◌∷◌, ◌++◌, Option, Some, None, codes, length, slice_get, if◌then◌else◌}
use Rattle.std.specs.List.{flat_map}
use Rattle.tree_items.specs.Files.{item_shape, item_text}
use Rattle.tree_items.specs.declared.ast.Item.{Item}
use Rattle.modules_compilation.specs.Places.{item_at}
use Rattle.modules_compilation.specs.declared.compilation.Compilation.{Compilation}
use Rattle.modules_compilation.specs.declared.module_node.ModuleNode.{ModuleNode}
use Rattle.modules_compilation.specs.declared.place.Place.{Place}

abbrev pub text_behind : List ℕ → Option Item → List ℕ
text_behind front None = []
text_behind front (Some item) = front ++ (item_text (codes "    ") (item_shape item) ++ codes "\n")

-- the item at a place after the front, and a newline; nothing where there is no item
abbrev pub item_behind : Compilation → List ℕ → Place → List ℕ
item_behind compilation front place = text_behind front (item_at compilation place)

-- items, each after an empty line
abbrev pub others_text : Compilation → List Place → List ℕ
others_text compilation places = flat_map (item_behind compilation (codes "\n")) places

-- items, the first after the front and each other after an empty line
abbrev pub items_text : Compilation → List ℕ → List Place → List ℕ
items_text compilation front [] = []
items_text compilation front (place ∷ places) = item_behind compilation front place ++ others_text compilation places

-- an empty line, but nothing where nothing stands before it
abbrev pub front : Bool → List ℕ
front is_first = if is_first then [] else codes "\n"

abbrev pub is_empty : List Place → Bool
is_empty places = length places == 0

-- a module's variables, aliases and recipes, with an empty line between two
abbrev pub node_text : Compilation → ModuleNode → List ℕ
node_text compilation node =
    items_text compilation [] node.assignments.items
    ++ (items_text compilation (front (is_empty node.assignments.items)) node.aliases.items
    ++ items_text compilation (front (is_empty node.assignments.items && is_empty node.aliases.items)) node.recipes.items)

abbrev pub text_of : Compilation → Option ModuleNode → List ℕ
text_of compilation None = []
text_of compilation (Some node) = node_text compilation node

-- the module at a place as it is printed
abbrev pub module_text : Compilation → ℕ → List ℕ
module_text compilation place = text_of compilation (slice_get compilation.modules.items place)
