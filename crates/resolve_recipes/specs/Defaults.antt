-- The recipe that runs where none is named.
use Rattle.std.specs.Prelude.{ℕ, ◌<◌, ◌&&◌, ◌||◌, Bool, true, false, cond, nat_eq, nat_le, nat_lt, List, [], ◌∷◌, Option, Some, None, filter}
use Rattle.std.specs.List.{list_any}
use Rattle.std.specs.Option.{option_and_then, option_or}
use Rattle.tree_attributes.specs.declared.attribute.AttributeKind.TheVariants.{Default}
use Rattle.tree_attributes.specs.Sets.Sets.{is_of, items_of}
use Rattle.tree_items.specs.declared.recipe.Recipe.{Recipe}
use Rattle.tree_items.specs.declared.recipe.UnresolvedDependency.{UnresolvedDependency}
use Rattle.modules_compilation.specs.declared.compilation.Compilation.{Compilation}
use Rattle.modules_compilation.specs.declared.module_node.ModuleNode.{ModuleNode}
use Rattle.modules_compilation.specs.declared.place.Place.{Place}
use Rattle.resolve_recipes.specs.Nodes.{recipe_at}

-- by the file, and then by the item
abbrev pub is_no_later : Place → Place → Bool
is_no_later a b = nat_lt a.file b.file || nat_eq a.file b.file && nat_le a.item b.item

-- the earlier of two, of which one may be missing
abbrev pub earlier : Option Place → Place → Option Place
earlier None place = Some place
earlier (Some found) place = cond (is_no_later found place) (Some found) (Some place)

-- the earliest of these, and of one that was found before
abbrev pub earliest_from : Option Place → List Place → Option Place
earliest_from found [] = found
earliest_from found (place ∷ places) = earliest_from (earlier found place) places

abbrev pub earliest : List Place → Option Place
earliest = earliest_from None

abbrev pub has_default : Option (Recipe UnresolvedDependency) → Bool
has_default None = false
has_default (Some recipe) = list_any (is_of Default) (items_of recipe.attributes)

-- the earliest of its recipes with the attribute `default`, else the earliest of its own file
abbrev pub default_of : Compilation → ModuleNode → Option Place
default_of compilation node = option_or (earliest (filter (λ item. has_default (recipe_at compilation item)) node.recipes.items)) (earliest (filter (λ item. nat_eq item.file node.first_file) node.recipes.items))
