-- The texts that words give for variables.
use Rattle.std.specs.Prelude.{ℕ, Bool, if◌then◌else◌, nat_eq, List, [], ◌∷◌, Option, Some, None, is_some}
use Rattle.std.specs.Option.{option_and_then, option_map, option_or}
use Rattle.tree_expressions.specs.declared.expression.Expression.{Expression}
use Rattle.tree_items.specs.declared.item.Binding.{Binding}
use Rattle.just_value.specs.declared.positional.Override.{Override}
use Rattle.modules_compilation.specs.Modulepaths.{pieces}
use Rattle.modules_compilation.specs.declared.compilation.Compilation.{Compilation}
use Rattle.modules_compilation.specs.declared.place.Place.{Place}
use Rattle.resolve_recipes.specs.Leading.{variable_from}
use Rattle.resolve_analysis.specs.Lists.{variable_at}

-- the text, if the number is the one that it is given for
abbrev pub text_if : Option ℕ → List ℕ → ℕ → Option (List ℕ)
text_if None text number = None
text_if (Some given) text number = if nat_eq given number then Some text else None

module _ (compilation : Compilation) where
  abbrev pub number_at : Place → Option ℕ
  number_at place = option_map (λ (variable : Binding Expression). variable.number) (variable_at compilation place)

  -- the number of the variable that is called so: by its name in the root, or after the names of modules
  abbrev pub number_of : List ℕ → Option ℕ
  number_of name = option_and_then number_at (variable_from compilation (Some 0) (pieces name))

  -- the text given last for the variable of a number
  abbrev pub text_given : List Override → ℕ → Option (List ℕ)
  text_given [] number = None
  text_given (given ∷ others) number = option_or (text_given others number) (text_if (number_of given.name) given.value number)

  abbrev pub is_named : Override → Bool
  is_named given = is_some (number_of given.name)
