-- Items whose variables have their numbers: what holds no variable is as it was.
use Rattle.std.specs.Prelude.{◌≡◌, ℕ, List, map, Option, None}
use Rattle.std.specs.Option.{option_map}
use Rattle.just_text.specs.declared.name.Name.{Name}
use Rattle.tree_expressions.specs.Shape.{Shape, shape_of}
use Rattle.tree_expressions.specs.declared.expression.Expression.{Expression}
use Rattle.tree_attributes.specs.Attributes.{AttributeShape}
use Rattle.tree_attributes.specs.declared.setting.Interpreter.{Interpreter}
use Rattle.tree_attributes.specs.declared.setting.Setting.{Setting}
use Rattle.tree_attributes.specs.declared.setting.Setting.TheVariants.{DotenvCommand, DotenvFilename, DotenvPath, ScriptInterpreter, Shell, Tempdir, WindowsShell, WorkingDirectory}
use Rattle.tree_attributes.specs.Sets.Numbering.{texts_of}
use Rattle.tree_attributes.specs.Sets.Order.{item_shape}
use Rattle.tree_attributes.specs.Sets.Sets.{items_of}
use Rattle.tree_attributes.specs.declared.attribute_item.AttributeItem.{AttributeItem}
use Rattle.tree_items.specs.declared.ast.Item.{Item}
use Rattle.tree_items.specs.declared.ast.Item.TheVariants.{Assignment, Function, Recipe as recipe_item, Set as set_item}
use Rattle.tree_items.specs.declared.set.Set.{Set}
use Rattle.tree_items.specs.declared.recipe.Parameter.{Parameter}
use Rattle.tree_items.specs.declared.recipe.Recipe.{Recipe}
use Rattle.tree_items.specs.declared.recipe.UnresolvedDependency.{UnresolvedDependency}

-- a parameter without its default and without what its option stands for, and the shape of that
abbrev pub bare_parameter : Parameter → Parameter × Option Shape
bare_parameter p = (record p { default = None; value = None }, option_map shape_of p.value)

abbrev pub bare_parameters : List Parameter → List (Parameter × Option Shape)
bare_parameters = map bare_parameter

-- where an attribute is written, what it says, and the texts of its own strings
abbrev pub seen_attribute : AttributeItem → Name × AttributeShape × List (List ℕ)
seen_attribute item = (item.name, item_shape item, texts_of item.attribute)

abbrev pub seen_attributes : List AttributeItem → List (Name × AttributeShape × List (List ℕ))
seen_attributes = map seen_attribute

-- a recipe has its name, its number, whether it is quiet, its parameters but for their expressions, and its attributes as they are written
pub record IsSameRecipe (before after : Recipe UnresolvedDependency) : Type 0 where
  pub name : after.name ≡ before.name
  pub number : after.number ≡ before.number
  pub quiet : after.quiet ≡ before.quiet
  pub parameters : bare_parameters after.parameters.items ≡ bare_parameters before.parameters.items
  pub attributes : seen_attributes (items_of after.attributes) ≡ seen_attributes (items_of before.attributes)

-- a setting is the same setting, with another expression, or another command with other arguments; one that has neither is the same
abbrev pub IsSameSetting : Setting → Setting → Type 0
IsSameSetting (DotenvCommand e) after = (value : Expression) × (after ≡ DotenvCommand value)
IsSameSetting (DotenvFilename e) after = (value : Expression) × (after ≡ DotenvFilename value)
IsSameSetting (DotenvPath e) after = (value : Expression) × (after ≡ DotenvPath value)
IsSameSetting (Tempdir e) after = (value : Expression) × (after ≡ Tempdir value)
IsSameSetting (WorkingDirectory e) after = (value : Expression) × (after ≡ WorkingDirectory value)
IsSameSetting (ScriptInterpreter i) after = (value : Interpreter Expression) × (after ≡ ScriptInterpreter value)
IsSameSetting (Shell i) after = (value : Interpreter Expression) × (after ≡ Shell value)
IsSameSetting (WindowsShell i) after = (value : Interpreter Expression) × (after ≡ WindowsShell value)
IsSameSetting other after = after ≡ other

-- a variable and a function have another right side, a recipe and a setting other expressions; each other item is the same
abbrev pub IsNumberedItem : Item → Item → Type 0
IsNumberedItem (Assignment a) after = (value : Expression) × (after ≡ Assignment (record a { value = value }))
IsNumberedItem (Function f) after = (body : Expression) × (after ≡ Function (record f { body = body }))
IsNumberedItem (recipe_item r) after = (now : Recipe UnresolvedDependency) × (after ≡ recipe_item now) × IsSameRecipe r now
IsNumberedItem (set_item s) after = (now : Set) × (after ≡ set_item now) × (now.name ≡ s.name) × IsSameSetting s.value now.value
IsNumberedItem other after = after ≡ other
