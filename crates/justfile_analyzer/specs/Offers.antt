-- What modules offer: their recipes and submodules that are not private.
use Rattle.std.specs.Prelude.{ℕ, Bool, true, not, ◌||◌, ◌==◌, List, [], Option, Some, None, filter, filter_map, option_map, slice_get, slice_index, if◌then◌else◌}
use Rattle.just_text.specs.Tokens.{lexeme}
use Rattle.tree_attributes.specs.Sets.Sets.{items_of, is_private as private_by}
use Rattle.tree_attributes.specs.declared.attribute_item.AttributeItem.{AttributeItem}
use Rattle.tree_items.specs.declared.ast.Item.{Item}
use Rattle.tree_items.specs.declared.ast.Item.TheVariants.{Module as ModuleItem, Recipe as RecipeItem}
use Rattle.tree_items.specs.declared.recipe.Recipe.{Recipe}
use Rattle.tree_items.specs.declared.recipe.UnresolvedDependency.{UnresolvedDependency}
use Rattle.modules_compilation.specs.Places.{item_at, text_of}
use Rattle.modules_compilation.specs.declared.compilation.Compilation.{Compilation}
use Rattle.modules_compilation.specs.declared.module_node.ModuleNode.{ModuleNode}
use Rattle.modules_compilation.specs.declared.place.Place.{Place}
use Rattle.justfile_analyzer.specs.declared.offered.RecipeRef.{RecipeRef}

-- a name that begins with `_`, or an attribute, makes an item private
abbrev pub is_private : List ℕ → List AttributeItem → Bool
is_private name attributes = (slice_index name 0 == 95) || private_by attributes

-- a recipe as it is written
abbrev pub Written : Type 0
Written = Recipe UnresolvedDependency

-- a recipe, and where it stands
abbrev pub lent : RecipeRef → Written × Place
lent recipe = (recipe.recipe.now, recipe.place)

-- the item, if it is a recipe that is not private
abbrev pub public_recipe : Option Item → Option Written
public_recipe (Some (RecipeItem recipe)) = if is_private (lexeme recipe.name.token) (items_of recipe.attributes) then None else Some recipe
public_recipe other = None

abbrev pub offered_at : Compilation → Place → Option (Written × Place)
offered_at compilation place = option_map (λ recipe. (recipe, place)) (public_recipe (item_at compilation place))

abbrev pub recipes_of : Option ModuleNode → List Place
recipes_of None = []
recipes_of (Some node) = node.recipes.items

-- the places of the recipes that the module at a place keeps
abbrev pub recipe_places : Compilation → ℕ → List Place
recipe_places compilation place = recipes_of (slice_get compilation.modules.items place)

-- the recipes among places that are not private, in their order
abbrev pub offered_among : Compilation → List Place → List (Written × Place)
offered_among compilation places = filter_map (offered_at compilation) places

-- those of the module at a place
abbrev pub offered_recipes : Compilation → ℕ → List (Written × Place)
offered_recipes compilation place = offered_among compilation (recipe_places compilation place)

abbrev pub name_of : Option ModuleNode → List ℕ
name_of None = []
name_of (Some node) = text_of node.name

-- the name of the module at a place, empty where it has none
abbrev pub module_name : Compilation → ℕ → List ℕ
module_name compilation place = name_of (slice_get compilation.modules.items place)

-- the attributes of a `mod` item
abbrev pub attributes_of : Option Item → Option (List AttributeItem)
attributes_of (Some (ModuleItem item)) = Some (items_of item.attributes)
attributes_of other = None

abbrev pub attributes_at : Compilation → Option Place → Option (List AttributeItem)
attributes_at compilation None = None
attributes_at compilation (Some place) = attributes_of (item_at compilation place)

abbrev pub node_attributes : Compilation → Option ModuleNode → Option (List AttributeItem)
node_attributes compilation None = None
node_attributes compilation (Some node) = attributes_at compilation node.item

-- the attributes of the `mod` item of the module at a place
abbrev pub module_attributes : Compilation → ℕ → Option (List AttributeItem)
module_attributes compilation place = node_attributes compilation (slice_get compilation.modules.items place)

abbrev pub is_open : List ℕ → Option (List AttributeItem) → Bool
is_open name None = true
is_open name (Some attributes) = not (is_private name attributes)

-- the module at a place is public unless its `mod` item is private
abbrev pub is_public : Compilation → ℕ → Bool
is_public compilation place = is_open (module_name compilation place) (module_attributes compilation place)

abbrev pub submodules_of : Option ModuleNode → List ℕ
submodules_of None = []
submodules_of (Some node) = node.submodules.items

-- the places of the submodules of the module at a place
abbrev pub submodules : Compilation → ℕ → List ℕ
submodules compilation place = submodules_of (slice_get compilation.modules.items place)

-- those of them that are public, in their order
abbrev pub offered_modules : Compilation → ℕ → List ℕ
offered_modules compilation place = filter (is_public compilation) (submodules compilation place)
