-- What the parser of attributes holds as the grammar sees it.
use Rattle.std.specs.Prelude.{◌≡◌, List, map, Option, Some, None, IfSome}
use Rattle.std.specs.List.{All}
use Rattle.std.specs.Option.{option_map}
use Rattle.just_text.specs.Tokens.{lexeme}
use Rattle.tree_attributes.specs.Attributes.{AttributeShape, OptionsShape, with_options, attribute_shape, kind_name, kind_of, options_shape}
use Rattle.parse_expressions.specs.Literals.{Origin}
use Rattle.parse_attributes.specs.declared.attribute.AttributeRead.{AttributeRead}
use Rattle.parse_attributes.specs.Cooked.{AreCookedOptions, IsCookedAttribute}

-- what an attribute says, if its options may stand together
abbrev pub read_shape : AttributeRead → Option AttributeShape
read_shape r = option_map attribute_shape r.attribute

abbrev pub read_shapes : List AttributeRead → List (Option AttributeShape)
read_shapes = map read_shape

-- the options of an `arg`
abbrev pub options_in : Option AttributeShape → Option OptionsShape
options_in (Some (with_options o)) = Some o
options_in other = None

-- the name that is written is the attribute's
abbrev pub IsNamed : AttributeRead → Type 0
IsNamed r = IfSome r.attribute (λ attribute. lexeme r.name.token ≡ kind_name (kind_of (attribute_shape attribute)))

-- the name that is written is the attribute's, the options stand beside it once more, and both hold what their strings stand for
pub record IsWholeRead (origin : Origin) (r : AttributeRead) : Type 0 where
  pub named : IsNamed r
  pub again : option_map options_shape r.options ≡ options_in (read_shape r)
  pub cooked : IfSome r.attribute (IsCookedAttribute origin)
  pub cooked_options : IfSome r.options (AreCookedOptions origin)

abbrev pub AreWholeReads : Origin → List AttributeRead → Type 0
AreWholeReads origin rs = All (IsWholeRead origin) rs
