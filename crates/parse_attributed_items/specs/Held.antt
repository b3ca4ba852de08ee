-- What items hold when their attributes are read.
use Rattle.std.specs.Prelude.{◌≡◌, ◌<◌, ◌||◌, Bool, false, List, [], IfSome}
use Rattle.std.specs.List.{All}
use Rattle.just_text.specs.Numbers.{Numbers}
use Rattle.just_text.specs.Tokens.{lexeme}
use Rattle.tree_items.specs.declared.ast.Item.{Item}
use Rattle.tree_items.specs.declared.ast.Item.TheVariants.{Alias, Assignment, Module, Recipe, Set}
use Rattle.tree_attributes.specs.declared.attribute_item.AttributeItem.{AttributeItem}
use Rattle.tree_expressions.specs.declared.expression.Expression.{Expression}
use Rattle.tree_items.specs.declared.item.Binding.{Binding}
use Rattle.tree_items.specs.declared.recipe.Parameter.{Parameter}
use Rattle.tree_items.specs.declared.recipe.Recipe.{Recipe as RecipeTree}
use Rattle.tree_items.specs.declared.recipe.UnresolvedDependency.{UnresolvedDependency}
use Rattle.tree_attributes.specs.Sets.Order.{item_shape, name_text}
use Rattle.tree_attributes.specs.Sets.Sets.{items_of, shapes_in, is_private as are_private}
use Rattle.parse_attributes.specs.Cooked.{IsCookedAttribute}
use Rattle.parse_expressions.specs.Literals.{Expansion, Origin}
use Rattle.parse_recipes.specs.Cooked.{IsRecipeCooked}
use Rattle.parse_recipes.specs.Numbering.{IsRecipeNumbered}
use Rattle.parse_items.specs.Cooked.{IsCookedItem}
use Rattle.parse_items.specs.Numbered.{AreNext, binding_numbers}
use Rattle.parse_items.specs.Plain.{is_private}
use Rattle.parse_items.specs.SettingCooked.{IsCookedSetting}
use Rattle.parse_items.specs.Names.{setting_name}
use Rattle.parse_attributed_items.specs.Options.{AreValuesCooked, HaveOptions}
use Rattle.parse_attributed_items.specs.Fitting.{options_among}

-- the bindings of the item have the next bindings' numbers in order, a recipe the next recipe's number, and no other was handed out
abbrev pub IsItemNumbered : Numbers → Numbers → Item → Type 0
IsItemNumbered old new (Recipe r) = IsRecipeNumbered old new r
IsItemNumbered old new other = AreNext old new (binding_numbers other)

-- an assignment of the file that is read, which is private by its name or by an attribute
pub record IsOwnAssignment (a : Binding Expression) : Type 0 where
  pub file_depth : a.file_depth ≡ 0
  pub prelude : a.prelude ≡ false
  pub private : a.private ≡ (is_private (lexeme a.name.token) || are_private (items_of a.attributes))

-- the parameters of a recipe have the options that its `arg`s give them
abbrev pub HasOptions : Expansion → RecipeTree UnresolvedDependency → Type 0
HasOptions expansion r = HaveOptions expansion (options_among (shapes_in r.attributes)) r.parameters.items

-- the short names of their options are ASCII
abbrev pub IsAscii : Parameter → Type 0
IsAscii p = IfSome p.short (λ letter. letter < 128)

abbrev pub AreAscii : List Parameter → Type 0
AreAscii ps = All IsAscii ps

-- what the attributes, the name and the place of an item make of it: a setting is the one that its name tells
abbrev pub IsOwnItem : Expansion → Item → Type 0
IsOwnItem expansion (Assignment a) = IsOwnAssignment a
IsOwnItem expansion (Recipe r) = HasOptions expansion r × AreAscii r.parameters.items
IsOwnItem expansion (Set s) = setting_name s.value ≡ lexeme s.name.token
IsOwnItem expansion other = Unit {0}

-- the attributes before an item
abbrev pub attributes_of : Item → List AttributeItem
attributes_of (Alias a) = items_of a.attributes
attributes_of (Assignment a) = items_of a.attributes
attributes_of (Module m) = items_of m.attributes
attributes_of (Recipe r) = items_of r.attributes
attributes_of (Set s) = items_of s.attributes
attributes_of other = []

-- an attribute holds what its strings stand for, and the name that is written is its own
abbrev pub IsWholeAttribute : Origin → AttributeItem → Type 0
IsWholeAttribute origin item = IsCookedAttribute origin item.attribute × (lexeme item.name.token ≡ name_text (item_shape item))

abbrev pub AreAttributesCooked : Origin → List AttributeItem → Type 0
AreAttributesCooked origin items = All (IsWholeAttribute origin) items

-- the expressions and strings of an item after its attributes hold what their strings stand for
abbrev pub IsInsideCooked : Origin → Item → Type 0
IsInsideCooked origin (Recipe r) = IsRecipeCooked origin r × AreValuesCooked origin r.parameters.items
IsInsideCooked origin (Set s) = IsCookedSetting origin s.value
IsInsideCooked origin other = IsCookedItem origin other

-- those of its attributes too
pub record IsItemCooked (origin : Origin) (i : Item) : Type 0 where
  pub attributes : AreAttributesCooked origin (attributes_of i)
  pub inside : IsInsideCooked origin i
