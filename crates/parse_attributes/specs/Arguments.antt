-- The arguments of attributes, and what they make of them.
use Rattle.std.specs.Prelude.{ℕ, suc, List, [], ◌∷◌, length, Option, Some}
use Rattle.std.specs.Option.{option_map}
use Rattle.tree_attributes.specs.declared.attribute.AttributeKind.{AttributeKind}
use Rattle.tree_attributes.specs.Attributes.{AttributeShape, plain, with_options, with_prompt, with_pair, with_string, with_strings, with_interpreter}
use Rattle.tree_expressions.specs.Shape.{Shape, literal}
use Rattle.parse_expressions.specs.Literals.{Expansion}
use Rattle.tree_attributes.specs.declared.argument_form.ArgumentForm.{ArgumentForm}
use Rattle.tree_attributes.specs.declared.argument_form.ArgumentForm.TheVariants.{Expressions, OneString, OptionalString, Parameter, Strings, TwoExpressions}
use Rattle.tree_attributes.specs.Forms.{form_of}
use Rattle.parse_attributes.specs.Options.{OptionShape, options_of}

-- what arguments are
pub data Sort : Type 0 where
  of_strings : Sort
  of_expressions : Sort
  -- the name of a parameter, and its options
  of_parameter : Sort

abbrev pub sort_of : ArgumentForm → Sort
sort_of OneString = of_strings
sort_of OptionalString = of_strings
sort_of Strings = of_strings
sort_of Parameter = of_parameter
sort_of other = of_expressions

-- arguments as they are written; an option that is not known is none
pub data Arguments : Type 0 where
  nothing : Arguments
  strings : List ℕ → List (List ℕ) → Arguments
  expressions : Shape → List Shape → Arguments
  parameter : List ℕ → List (Option OptionShape) → Arguments

-- how many there are; the options count as one with their parameter
abbrev pub count : Arguments → ℕ
count nothing = 0
count (strings s ss) = suc (length ss)
count (expressions e es) = suc (length es)
count (parameter name options) = 1

-- a string alone, as an argument of that sort
abbrev pub lone : Sort → List ℕ → Arguments
lone of_strings s = strings s []
lone of_expressions s = expressions (literal s) []
lone of_parameter s = parameter s []

abbrev pub of_texts : ArgumentForm → AttributeKind → List ℕ → List (List ℕ) → AttributeShape
of_texts Strings kind s ss = with_strings s ss
of_texts form kind s ss = with_string kind s

abbrev pub of_values : ArgumentForm → Shape → List Shape → AttributeShape
of_values Expressions e es = with_interpreter (record { command = e; arguments = es })
of_values TwoExpressions e (f ∷ es) = with_pair e f
of_values form e es = with_prompt e

-- the attribute with these arguments, if its options may stand together
abbrev pub made : Expansion → AttributeKind → Arguments → Option AttributeShape
made expansion kind nothing = Some (plain kind)
made expansion kind (strings s ss) = Some (of_texts (form_of kind) kind s ss)
made expansion kind (expressions e es) = Some (of_values (form_of kind) e es)
made expansion kind (parameter name options) = option_map with_options (options_of expansion name options)
