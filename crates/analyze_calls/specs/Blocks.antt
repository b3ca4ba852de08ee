-- Which calls a block of dependencies brings about, by the places of their recipes.
use Rattle.std.specs.Prelude.{ℕ, cond, if◌then◌else◌, ◌==◌, ◌++◌, List, [], ◌∷◌, drop, get_or, length, map, suc, take, Option, Some, None, Ok, Err, codes}
use Rattle.std.specs.List.{flat_map}
use Rattle.tree_items.specs.Recipes.{is_variadic}
use Rattle.tree_items.specs.declared.recipe.DependencyArgument.{DependencyArgument}
use Rattle.tree_items.specs.declared.recipe.Parameter.{Parameter}
use Rattle.tree_items.specs.declared.recipe.UnresolvedDependency.{UnresolvedDependency}
use Rattle.evaluate_context.specs.declared.context.ExecutionContext.{ExecutionContext}
use Rattle.meaning_dialogues.specs.Dialogue.{Dialogue, Ends, ◌>>=◌}
use Rattle.meaning_dialogues.specs.Evaluation.{Stage, Value, dialogues, row}
use Rattle.meaning_dialogues.specs.Faults.{internal}
use Rattle.meaning_dialogues.specs.Terms.{terms_of}
use Rattle.analyze_calls.specs.Calls.{CallRow}
use Rattle.analyze_calls.specs.Placed.{placed_in}
use Rattle.analyze_calls.specs.declared.plan.Planned.{Planned}
use Rattle.analyze_calls.specs.declared.plan.Runner.{Runner}

-- the first value, or the empty list
abbrev pub first_of : List Value → Value
first_of [] = []
first_of (value ∷ values) = value

abbrev pub others_of : List Value → List Value
others_of [] = []
others_of (value ∷ values) = values

-- a group for each parameter: the values in order; one that takes any number gets all that remain, one after the other
abbrev pub shared_out : List Parameter → List Value → List Value
shared_out [] values = []
shared_out (parameter ∷ parameters) values =
    cond (is_variadic parameter.kind) (flat_map (λ value. value) values ∷ shared_out parameters [])
    (first_of values ∷ shared_out parameters (others_of values))

-- the values themselves where there is one for each parameter
abbrev pub groups_for : List Parameter → List Value → List Value
groups_for parameters values = if length values == length parameters then values else shared_out parameters values

-- the call of the recipe at a place with these parameters
abbrev pub call_with : ℕ → List Parameter → List Value → CallRow
call_with place parameters values = record { recipe = place; groups = groups_for parameters values }

-- the rows of values of a dependency: one, or one for each element of the first starred argument's value
abbrev pub rows_of : List DependencyArgument → List Value → List (List Value)
rows_of (argument ∷ arguments) (value ∷ values) =
    cond argument.starred (map (λ element. (element ∷ []) ∷ values) value) (map (λ row. value ∷ row) (rows_of arguments values))
rows_of arguments values = values ∷ []

-- the rows where the argument at this place is the first that is starred
abbrev pub starred_rows : ℕ → List Value → List (List Value)
starred_rows star values = map (λ element. take star values ++ (element ∷ []) ∷ drop (suc star) values) (get_or values star [])

-- the values of arguments, in order
abbrev pub values_of : Stage → List DependencyArgument → Dialogue (List Value)
values_of stage arguments = row (dialogues stage (terms_of (map (λ argument. argument.expression) arguments)))

-- the calls of one dependency on the recipe at a place with these parameters
abbrev pub brings : Stage → ℕ → List Parameter → List DependencyArgument → Dialogue (List CallRow)
brings stage place parameters arguments = do
  values ← values_of stage arguments
  Ends (Ok (map (call_with place parameters) (rows_of arguments values)))

-- the same by what stands at the place; a place of no recipe is refused
abbrev pub brings_at : Stage → ℕ → Option (Planned × ExecutionContext) → List DependencyArgument → Dialogue (List CallRow)
brings_at stage place None arguments = Ends (Err (internal (codes "dependency without a recipe")))
brings_at stage place (Some (planned, context)) arguments = brings stage place planned.recipe.now.parameters.items arguments

-- the calls of a block, each dependency with the place of its recipe: its arguments come before those of the next
abbrev pub block : Runner → Stage → List UnresolvedDependency → List ℕ → Dialogue (List CallRow)
block runner stage (dependency ∷ dependencies) (place ∷ places) = do
  calls ← brings_at stage place (placed_in runner place) dependency.arguments.items
  others ← block runner stage dependencies places
  Ends (Ok (calls ++ others))
block runner stage dependencies places = Ends (Ok [])
