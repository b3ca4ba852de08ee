-- Which calls are steady, by what is written.
use Rattle.std.specs.Prelude.{◌≡◌, List, [], ◌++◌, cond, Some, None, Contains}
use Rattle.tree_expressions.specs.Shape.{Shape}
use Rattle.tree_items.specs.Recipes.{ArgumentShape}
use Rattle.meaning_evaluation.specs.Named.{RecipeName, ParameterRow, DependencyRow, RecipeRow, ModuleRow, Definitions}
use Rattle.just_meaning.specs.Reading.{AsksIn}

-- the dependencies whose arguments both flags have to agree on: the priors, and the subsequents where these share the table
abbrev pub looked : RecipeRow → ModuleRow → List DependencyRow
looked row inside = row.priors ++ cond inside.shares row.subsequents []

-- what a recipe evaluates before its body: defaults, keys and values of its environment, its prompt, and dependencies' arguments
pub data EvaluatesFirst (row : RecipeRow) (inside : ModuleRow) : Shape → Type 0 where
  default : {parameter : ParameterRow} {e : Shape} → Contains row.parameters parameter → parameter.default ≡ Some e → EvaluatesFirst row inside e
  key : {k v : Shape} → Contains row.env (k, v) → EvaluatesFirst row inside k
  value : {k v : Shape} → Contains row.env (k, v) → EvaluatesFirst row inside v
  prompt : {e : Shape} → row.confirm ≡ Some (Some e) → EvaluatesFirst row inside e
  argument : {d : DependencyRow} {a : ArgumentShape} → Contains (looked row inside) d → Contains d.arguments a → EvaluatesFirst row inside a.expression

-- no recipe asks whether it is a dependency before its body, through functions neither, and no option stands for a value of its own
pub record AreSteady (defined : Definitions) : Type 0 where
  pub unasked : (r : RecipeName) (row : RecipeRow) (inside : ModuleRow) (e : Shape) → defined.recipe r ≡ Some row → defined.inside r.path ≡ Some inside → EvaluatesFirst row inside e → AsksIn (defined.functions r.path) e → ⊥
  pub unvalued : (r : RecipeName) (row : RecipeRow) (parameter : ParameterRow) → defined.recipe r ≡ Some row → Contains row.parameters parameter → parameter.value ≡ None
