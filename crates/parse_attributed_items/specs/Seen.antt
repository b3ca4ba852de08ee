-- What the parser of items with attributes holds as the grammar sees it.
use Rattle.std.specs.Prelude.{ℕ, ◌≡◌, List, map, Option, Some}
use Rattle.std.specs.List.{All}
use Rattle.std.specs.Option.{option_map}
use Rattle.just_text.specs.declared.name.Name.{Name}
use Rattle.tree_attributes.specs.Attributes.{AttributeShape, options_shape}
use Rattle.tree_attributes.specs.declared.attribute.Attribute.{Attribute}
use Rattle.tree_attributes.specs.declared.attribute_item.AttributeItem.{AttributeItem}
use Rattle.tree_attributes.specs.Sets.Order.{in_order, item_shape as attribute_item_shape}
use Rattle.tree_attributes.specs.Sets.Sets.{items_of, shapes_in}
use Rattle.tree_items.specs.Files.{ItemShape, item_shape}
use Rattle.parse_expressions.specs.Literals.{Expansion, Origin}
use Rattle.parse_attributes.specs.Cooked.{AreCookedOptions}
use Rattle.parse_attributes.specs.Seen.{read_shapes}
use Rattle.parse_attributed_items.specs.Whole.{AreWholeOptions}
use Rattle.parse_attributed_items.specs.declared.bare.ItemRead.{ItemRead}
use Rattle.parse_attributed_items.specs.declared.item.PartsRead.{PartsRead}
use Rattle.parse_attributed_items.specs.declared.split.KnownAttributes.{KnownAttributes}
use Rattle.parse_attributed_items.specs.declared.split.OrderedAttributes.{OrderedAttributes}
use Rattle.parse_attributed_items.specs.Fitting.{options_among}
use Rattle.parse_attributed_items.specs.Held.{AreAttributesCooked}
use Rattle.parse_attributed_items.specs.Reading.{Parts}

-- the attribute itself, and where its name is written
abbrev pub attribute_in : AttributeItem → Attribute × Name
attribute_in item = (item.attribute, item.name)

-- an attribute, if it is one, with the name
abbrev pub with_name : Name → Option Attribute → Option (Attribute × Name)
with_name name attribute = option_map (λ a. (a, name)) attribute

-- an item and its blank lines
abbrev pub read_of : ItemRead → ItemShape × ℕ
read_of r = (item_shape r.item, r.blank_lines)

-- attributes and the item after them
abbrev pub parts_of : PartsRead → Parts
parts_of p = record { attributes = read_shapes p.attributes.items; item = item_shape p.read.item; blanks = p.read.blank_lines }

-- the options are those of the `arg`s among the attributes, and all hold what their strings stand for
pub record AreWholeKnown (origin : Origin) (s : KnownAttributes) : Type 0 where
  pub again : map options_shape s.options.items ≡ options_among (map attribute_item_shape s.items.items)
  pub cooked : AreAttributesCooked origin s.items.items
  pub cooked_options : All (AreCookedOptions origin) s.options.items

-- the same of attributes in their order, and of options as they are written
pub record AreWholeOrdered (origin : Origin) (written : List AttributeShape) (s : OrderedAttributes) : Type 0 where
  pub again : map options_shape s.options.items ≡ options_among written
  pub cooked : AreAttributesCooked origin (items_of s.attributes)
  pub cooked_options : All (AreCookedOptions origin) s.options.items
  pub order : shapes_in s.attributes ≡ in_order written

-- the texts of each `arg` among the attributes are of the form that it asks for
abbrev pub AreWholeArguments : Expansion → List AttributeShape → Type 0
AreWholeArguments expansion as' = All (AreWholeOptions expansion) (options_among as')

-- the same of attributes as they are read, if all are known
abbrev pub AreWholeWhereKnown : Expansion → List (Option AttributeShape) → Type 0
AreWholeWhereKnown expansion reads = (as' : List AttributeShape) → reads ≡ map Some as' → AreWholeArguments expansion as'
