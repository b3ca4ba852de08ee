-- The features of a file that must be asked for.
use Rattle.std.specs.Prelude.{Bool, true, false, List, [], ◌∷◌, ◌++◌, bytes_eq, codes, if◌then◌else◌}
use Rattle.std.specs.List.{list_any}
use Rattle.tree_items.specs.declared.ast.UnstableFeature.{UnstableFeature}
use Rattle.tree_items.specs.declared.ast.UnstableFeature.TheVariants.{CachedRecipes, DefinedFunctions, Lists}
use Rattle.tree_attributes.specs.declared.attribute.AttributeKind.TheVariants.{Cache}
use Rattle.tree_items.specs.Files.{ItemShape, function_item, recipe_item, set_item}
use Rattle.tree_attributes.specs.Sets.Sets.{has_kind}

-- a recipe with `[cache]`
abbrev pub is_cached : ItemShape → Bool
is_cached (recipe_item as' r) = list_any (has_kind Cache) as'
is_cached other = false

-- a function that the file defines
abbrev pub is_function : ItemShape → Bool
is_function (function_item f) = true
is_function other = false

-- the setting of lists, whatever its value
abbrev pub sets_lists : ItemShape → Bool
sets_lists (set_item as' s) = bytes_eq s.name (codes "lists")
sets_lists other = false

-- whether a file with these items uses the feature
abbrev pub uses : List ItemShape → UnstableFeature → Bool
uses items CachedRecipes = list_any is_cached items
uses items DefinedFunctions = list_any is_function items
uses items Lists = list_any sets_lists items

abbrev pub if_used : List ItemShape → UnstableFeature → List UnstableFeature
if_used items feature = if uses items feature then feature ∷ [] else []

-- the features that a file with these items uses, each once
abbrev pub features_of : List ItemShape → List UnstableFeature
features_of items = if_used items CachedRecipes ++ if_used items DefinedFunctions ++ if_used items Lists
