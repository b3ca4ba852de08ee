-- Attributes whose variables have numbers.
use Rattle.std.specs.Prelude.{◌≡◌, ℕ, List, [], ◌∷◌, Option, Some, None, length, map, slice_get}
use Rattle.tree_expressions.specs.declared.expression.Expression.{Expression}
use Rattle.tree_expressions.specs.Numbering.{AreNumbered}
use Rattle.tree_attributes.specs.declared.attribute.Attribute.{Attribute}
use Rattle.tree_attributes.specs.declared.attribute.Attribute.TheVariants.{Arg, Confirm, Doc, Env, Extension, Group, Metadata, Script, WorkingDirectory}
use Rattle.tree_attributes.specs.declared.setting.Interpreter.{Interpreter}
use Rattle.tree_attributes.specs.Attributes.{attribute_shape}
use Rattle.tree_attributes.specs.declared.attribute_item.AttributeItem.{AttributeItem}
use Rattle.tree_attributes.specs.Sets.Sets.{written_item}

abbrev pub if_there : Option Expression → List Expression
if_there None = []
if_there (Some e) = e ∷ []

-- the command and its arguments
abbrev pub elements : Interpreter Expression → List Expression
elements i = i.command ∷ i.arguments.items

-- the expressions of an attribute, but those of an `env`
abbrev pub expressions_of : Attribute → List Expression
expressions_of (Arg options) = if_there options.value.value
expressions_of (Confirm prompt) = if_there prompt
expressions_of (Script (Some i)) = elements i.value
expressions_of other = []

-- the key of an `env`, and its value
abbrev pub key_of : Attribute → List Expression
key_of (Env key value) = key ∷ []
key_of other = []

abbrev pub value_of : Attribute → List Expression
value_of (Env key value) = value.value ∷ []
value_of other = []

-- the texts of an attribute's own strings without quotes and escapes, but those of an `arg`
abbrev pub texts_of : Attribute → List (List ℕ)
texts_of (Doc (Some text)) = text.cooked ∷ []
texts_of (Extension text) = text.cooked ∷ []
texts_of (Group text) = text.cooked ∷ []
texts_of (Metadata first others) = first.cooked ∷ map (λ text. text.cooked) others.items
texts_of (WorkingDirectory text) = text.cooked ∷ []
texts_of other = []

-- An attribute before and after, where each variable has got the number of its name, those of an `env` the environment's, and nothing else has changed.
pub record IsNumberedAttribute (number environment : List ℕ → Option ℕ) (old new : Attribute) : Type 0 where
  pub shape : attribute_shape new ≡ attribute_shape old
  pub texts : texts_of new ≡ texts_of old
  pub expressions : AreNumbered number (expressions_of old) (expressions_of new)
  pub key : AreNumbered environment (key_of old) (key_of new)
  pub value : AreNumbered environment (value_of old) (value_of new)

-- the same of an attribute where it is written
pub record IsNumberedItem (number environment : List ℕ → Option ℕ) (old new : AttributeItem) : Type 0 where
  pub written : written_item new ≡ written_item old
  pub attribute : IsNumberedAttribute number environment old.attribute new.attribute

-- the same of a row of them
pub record AreNumberedItems (number environment : List ℕ → Option ℕ) (old new : List AttributeItem) : Type 0 where
  pub many : length new ≡ length old
  pub each : (k : ℕ) (before after : AttributeItem) → slice_get old k ≡ Some before → slice_get new k ≡ Some after → IsNumberedItem number environment before after
