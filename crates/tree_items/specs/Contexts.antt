-- Names that have numbers.
use Rattle.std.specs.Prelude.{ℕ, Bool, true, List, [], ◌∷◌, Option, Some, None, if◌then◌else◌}
use Rattle.std.specs.Ordering.{nat_cmp}
use Rattle.std.specs.Cmp.Lexicographic.{slice_cmp}
use Rattle.std.specs.BTreeMap.{get_by}
use Rattle.std.specs.Borrow.{Bor}
use Rattle.std.specs.Option.{option_or}
use Rattle.std.specs.Str.{bytes_eq}
use Rattle.just_text.specs.Tokens.{lexeme}
use Rattle.just_text.specs.declared.name.Name.{Name}
use Rattle.tree_items.specs.declared.recipe.Parameter.{Parameter}
use Rattle.tree_items.specs.declared.variables.context.ExpressionContext.{ExpressionContext}

-- the number of the name that came first, if it is this one
abbrev pub number_of_first : Option (Bor (List ℕ) × ℕ) → List ℕ → Option ℕ
number_of_first None name = None
number_of_first (Some pair) name = if bytes_eq pair.0.now name then Some pair.1 else None

-- whether a name is the one that came first, or comes first
abbrev pub goes_first : Option (Bor (List ℕ) × ℕ) → List ℕ → Bool
goes_first None name = true
goes_first (Some pair) name = bytes_eq pair.0.now name

-- the number of a name, if it has one
unfoldable pub number_in : ExpressionContext → List ℕ → Option ℕ
number_in context name = option_or (number_of_first context.first name) (get_by (λ k. slice_cmp nat_cmp name k.now) context.numbers)

-- the number of the last pair with this name, if there is one
abbrev pub last_named : List ℕ → List (List ℕ × ℕ) → Option ℕ
last_named name [] = None
last_named name (pair ∷ others) = option_or (last_named name others) (if bytes_eq pair.0 name then Some pair.1 else None)

-- a name's text and its number
abbrev pub named_number : (Name × ℕ) → List ℕ × ℕ
named_number pair = (lexeme pair.0.token, pair.1)

-- a parameter's name and its number
abbrev pub parameter_number : Parameter → List ℕ × ℕ
parameter_number parameter = (lexeme parameter.name.token, parameter.number)
