-- Which calls a block of dependencies brings about.
use Rattle.std.specs.Prelude.{List, [], ◌∷◌, Bool, true, false, cond, map, Option, Some, None, Ok}
use Rattle.std.specs.List.{flat_map}
use Rattle.tree_items.specs.Recipes.{is_variadic, ArgumentShape}
use Rattle.meaning_dialogues.specs.Dialogue.{Dialogue, Ends, ◌>>=◌}
use Rattle.meaning_dialogues.specs.Evaluation.{Value, row}
use Rattle.meaning_evaluation.specs.Named.{RecipeName, Call, ParameterRow, DependencyRow, RecipeRow, Definitions}

-- the first value, or the empty list
abbrev pub first_value : List Value → Value
first_value [] = []
first_value (value ∷ values) = value

abbrev pub values_behind : List Value → List Value
values_behind [] = []
values_behind (value ∷ values) = values

-- a group for each parameter: the values in order; one that takes any number gets all that remain, one after the other
abbrev pub grouped : List ParameterRow → List Value → List Value
grouped [] values = []
grouped (parameter ∷ parameters) values =
    cond (is_variadic parameter.kind) (flat_map (λ value. value) values ∷ grouped parameters [])
    (first_value values ∷ grouped parameters (values_behind values))

abbrev pub parameters_of : Option RecipeRow → List ParameterRow
parameters_of None = []
parameters_of (Some row) = row.parameters

abbrev pub call_of : Definitions → RecipeName → List Value → Call
call_of defined recipe values = record { recipe = recipe; groups = grouped (parameters_of (defined.recipe recipe)) values }

-- the rows of values that a dependency is called with: one, or one for each element of the starred argument's value
abbrev pub before_all : Value → List (List Value) → List (List Value)
before_all value rows = map (λ row. value ∷ row) rows

abbrev pub rows_of : List ArgumentShape → List Value → List (List Value)
rows_of (argument ∷ arguments) (value ∷ values) =
    cond argument.starred (map (λ element. (element ∷ []) ∷ values) value) (before_all value (rows_of arguments values))
rows_of arguments values = values ∷ []

-- what each gives, in order; the first fault ends it
abbrev pub each : {A : Type 0} → List (Dialogue A) → Dialogue (List A)
each [] = Ends (Ok [])
each (first ∷ others) = do
  a ← first
  as' ← each others
  Ends (Ok (a ∷ as'))

-- the calls of one dependency, its arguments in order
abbrev pub brings : Definitions → (ArgumentShape → Dialogue Value) → DependencyRow → Dialogue (List Call)
brings defined valued dependency = do
  values ← row (map valued dependency.arguments)
  Ends (Ok (map (call_of defined dependency.on) (rows_of dependency.arguments values)))

-- the calls of a block: all arguments come before its first call; none where dependencies are left out
abbrev pub block : Bool → Definitions → (ArgumentShape → Dialogue Value) → List DependencyRow → Dialogue (List Call)
block true defined valued dependencies = Ends (Ok [])
block false defined valued dependencies = do
  calls ← each (map (brings defined valued) dependencies)
  Ends (Ok (flat_map (λ cs. cs) calls))
