-- When two inputs agree on what a run reaches.
use Rattle.std.specs.Prelude.{◌≡◌, ℕ, List, [], Bool, Option, Some, None, Contains}
use Rattle.tree_expressions.specs.Shape.{Shape}
use Rattle.meaning_rules.specs.Naming.{a_call, occurrences}
use Rattle.meaning_evaluation.specs.Named.{Call, RecipeName, VariableName, RecipeRow, VariableRow, Definitions}
use Rattle.meaning_evaluation.specs.Scopes.{Configuration}
use Rattle.just_meaning.specs.Opening.{IsReached, IsOpened, named}
use Rattle.just_meaning.specs.Runs.{recipes_of}
use Rattle.just_meaning.specs.Reading.{Reaches, ReadsIn, expressions_in, function_row}

module _ (defined : Definitions) (no_dependencies : Bool) (invoked : List RecipeName) where
  -- an expression that may be evaluated in a module, with the names that it hides: the right side of an opening variable that isn't overridden, or one of a reached recipe
  pub data IsInPlay : List (List ℕ) → Shape → List (List ℕ) → Type 0 where
    of_variable : {x : VariableName} {row : VariableRow} → IsOpened defined no_dependencies invoked x → defined.override x ≡ None → defined.variable x ≡ Some row → IsInPlay x.path row.value []
    of_recipe : {r : RecipeName} {row : RecipeRow} {e : Shape} {hidden : List (List ℕ)} → IsReached defined no_dependencies invoked r → defined.recipe r ≡ Some row → Contains (expressions_in row) (e, hidden) → IsInPlay r.path e hidden

-- the same variable to a run: none, or one in a file of the same path with the same right side, exported alike; whether it is private or eager does not count
pub data SameVariable : Option VariableRow → Option VariableRow → Type 0 where
  neither : SameVariable None None
  both : {r s : VariableRow} → r.file ≡ s.file → r.value ≡ s.value → r.export ≡ s.export → SameVariable (Some r) (Some s)

-- Two inputs have equal module trees with their rows, and of what is reached equal definitions, each in a file of the same path: rows hold these.
-- What neither reaches may differ, and no number or place occurs.
pub record AgreeOnReach (no_dependencies : Bool) (invoked : List RecipeName) (a b : Definitions) : Type 0 where
  pub modules : a.modules ≡ b.modules
  pub inside : (path : List (List ℕ)) → a.inside path ≡ b.inside path
  pub recipes : (r : RecipeName) → IsReached a no_dependencies invoked r → a.recipe r ≡ b.recipe r
  pub opened : (x : VariableName) → (IsOpened a no_dependencies invoked x → IsOpened b no_dependencies invoked x) × (IsOpened b no_dependencies invoked x → IsOpened a no_dependencies invoked x)
  pub variables : (x : VariableName) → IsOpened a no_dependencies invoked x → SameVariable (a.variable x) (b.variable x) × (a.override x ≡ b.override x)
  -- each name stands for the same: a variable, or a constant where there is none; and a function, or a built-in one
  pub names : (path : List (List ℕ)) (e : Shape) (hidden : List (List ℕ)) (name : List ℕ) → IsInPlay a no_dependencies invoked path e hidden → ReadsIn (a.functions path) e hidden name
      → SameVariable (a.variable (named path name)) (b.variable (named path name)) × (a.override (named path name) ≡ b.override (named path name))
  pub functions : (path : List (List ℕ)) (e inner : Shape) (hidden others : List (List ℕ)) (name : List ℕ) (count : ℕ) → IsInPlay a no_dependencies invoked path e hidden → Reaches (a.functions path) e hidden inner others
      → Contains (occurrences inner) (a_call name count) → function_row name (a.functions path) ≡ function_row name (b.functions path)

-- two inputs agree on what a run of these calls reaches
abbrev pub AgreeOnCalls : Configuration → List Call → Definitions → Definitions → Type 0
AgreeOnCalls c calls a b = AgreeOnReach c.no_dependencies (recipes_of calls) a b
