-- What items are before their attributes are read.
use Rattle.std.specs.Prelude.{◌≡◌, true, []}
use Rattle.just_text.specs.Tokens.{lexeme}
use Rattle.tree_attributes.specs.Sets.Sets.{items_of}
use Rattle.tree_items.specs.declared.ast.Item.{Item}
use Rattle.tree_items.specs.declared.ast.Item.TheVariants.{Recipe, Set}
use Rattle.tree_items.specs.declared.recipe.Recipe.{Recipe as RecipeTree}
use Rattle.tree_items.specs.declared.recipe.UnresolvedDependency.{UnresolvedDependency}
use Rattle.tree_items.specs.declared.set.Set.{Set as SetTree}
use Rattle.tree_items.specs.Recipes.{parameter_shapes}
use Rattle.parse_expressions.specs.Literals.{Origin}
use Rattle.parse_recipes.specs.Cooked.{IsRecipeCooked}
use Rattle.parse_recipes.specs.Plain.{IsPlainRecipe}
use Rattle.parse_items.specs.Cooked.{IsCookedItem}
use Rattle.parse_items.specs.Plain.{IsPlainItem}
use Rattle.parse_items.specs.SettingCooked.{IsCookedSetting}
use Rattle.parse_items.specs.Names.{setting_name}
use Rattle.parse_attributed_items.specs.Rules.{are_distinct, names_of}

-- the recipe has no attributes, and its parameters have no options and different names
pub record IsBareRecipe (r : RecipeTree UnresolvedDependency) : Type 0 where
  pub plain : IsPlainRecipe r
  pub distinct : are_distinct (names_of (parameter_shapes r.parameters.items)) ≡ true

-- the setting has no attributes, and is the one that its name tells
pub record IsBareSet (s : SetTree) : Type 0 where
  pub attributes : items_of s.attributes ≡ []
  pub name : setting_name s.value ≡ lexeme s.name.token

-- the item has no attributes, and what they make of an item is not made yet
abbrev pub IsBareTree : Item → Type 0
IsBareTree (Recipe r) = IsBareRecipe r
IsBareTree (Set s) = IsBareSet s
IsBareTree other = IsPlainItem other

-- the expressions and strings of the item hold what their strings stand for
abbrev pub IsBareCooked : Origin → Item → Type 0
IsBareCooked origin (Recipe r) = IsRecipeCooked origin r
IsBareCooked origin (Set s) = IsCookedSetting origin s.value
IsBareCooked origin other = IsCookedItem origin other
