-- What is fixed: built-in functions, constants, and what an `arg` gives its parameter.
use Rattle.std.specs.Prelude.{ℕ, ◌&&◌, Bool, nat_le, List, map, Option, Some, None}
use Rattle.std.specs.List.{filter_map}
use Rattle.std.specs.Option.{option_map}
use Rattle.tree_expressions.specs.Shape.{Shape}
use Rattle.tree_attributes.specs.Attributes.{AttributeShape, OptionsShape, with_options}
use Rattle.parse_expressions.specs.Literals.{Expansion}
use Rattle.parse_attributed_items.specs.Options.{meant_for}
use Rattle.evaluate_functions.specs.Names.{function_of}
use Rattle.evaluate_functions.specs.Arguments.{expected}
use Rattle.evaluate_functions.specs.declared.count.ArgumentCount.{ArgumentCount}
use Rattle.just_value.specs.Constants.{constant_rows}
use Rattle.meaning_rules.specs.Worlds.Given.{Text}

abbrev pub is_in : ArgumentCount → ℕ → Bool
is_in range count = nat_le range.least count && nat_le count range.most

-- how many arguments the built-in function of a name takes, if there is one
unfoldable pub counts_of : Text → Option (ℕ → Bool)
counts_of name = option_map (λ f. is_in (expected f)) (function_of name)

-- the names of the constants
unfoldable pub constants : List Text
constants = map (λ row. row.0) constant_rows

abbrev pub options_in : AttributeShape → Option OptionsShape
options_in (with_options o) = Some o
options_in other = None

module _ (expansion : Expansion) where
  -- the value that the `arg` for the parameter of a name gives, if it gives one
  abbrev pub value_of : List AttributeShape → Text → Option Shape
  value_of attributes name = (meant_for expansion (filter_map options_in attributes) name).value

  -- whether it makes it a flag
  abbrev pub is_flag : List AttributeShape → Text → Bool
  is_flag attributes name = (meant_for expansion (filter_map options_in attributes) name).flag
