-- What expressions name, through the functions that they call too.
use Rattle.std.specs.Prelude.{◌≡◌, ℕ, List, [], ◌∷◌, ◌++◌, false, cond, Option, Some, None, Contains, codes, map}
use Rattle.std.specs.List.{list_any, flat_map}
use Rattle.std.specs.Str.{bytes_eq}
use Rattle.tree_expressions.specs.Shape.{Shape}
use Rattle.tree_items.specs.Lines.{Piece}
use Rattle.tree_items.specs.Lines as pieces
use Rattle.tree_attributes.specs.Settings.{InterpreterShape}
use Rattle.meaning_rules.specs.Naming.{a_variable, a_call, occurrences}
use Rattle.meaning_evaluation.specs.Named.{RecipeName, VariableName, ParameterRow, DependencyRow, RecipeRow, VariableRow, FunctionRow, Definitions}

-- the first function of a name
abbrev pub function_row : List ℕ → List FunctionRow → Option FunctionRow
function_row name [] = None
function_row name (f ∷ fs) = cond (bytes_eq f.name name) (Some f) (function_row name fs)

-- An expression that hides some names, and what it calls through any chain: the bodies of functions, each hiding its own parameters alone.
pub data Reaches (functions : List FunctionRow) : Shape → List (List ℕ) → Shape → List (List ℕ) → Type 0 where
  itself : {e : Shape} {hidden : List (List ℕ)} → Reaches functions e hidden e hidden
  through : {e inner : Shape} {hidden others : List (List ℕ)} {name : List ℕ} {count : ℕ} {f : FunctionRow} → Contains (occurrences e) (a_call name count) → function_row name functions ≡ Some f
      → Reaches functions f.body f.parameters inner others → Reaches functions e hidden inner others

-- a variable is read: named where its name isn't hidden
pub record ReadsIn (functions : List FunctionRow) (e : Shape) (hidden : List (List ℕ)) (name : List ℕ) : Type 0 where
  pub inner : Shape
  pub others : List (List ℕ)
  pub reached : Reaches functions e hidden inner others
  pub named : Contains (occurrences inner) (a_variable name)
  pub free : list_any (λ other. bytes_eq other name) others ≡ false

-- the built-in `is_dependency` is called, which a function of that name hides
pub record AsksIn (functions : List FunctionRow) (e : Shape) : Type 0 where
  pub inner : Shape
  pub others : List (List ℕ)
  pub reached : Reaches functions e [] inner others
  pub count : ℕ
  pub named : Contains (occurrences inner) (a_call (codes "is_dependency") count)
  pub free : function_row (codes "is_dependency") functions ≡ None

-- an assignment reads a variable of its module
pub record VariableReads (defined : Definitions) (x : VariableName) (name : List ℕ) : Type 0 where
  pub row : VariableRow
  pub there : defined.variable x ≡ Some row
  pub reads : ReadsIn (defined.functions x.path) row.value [] name

abbrev pub shapes_of : Option Shape → List Shape
shapes_of None = []
shapes_of (Some e) = e ∷ []

abbrev pub hiding : List (List ℕ) → List Shape → List (Shape × List (List ℕ))
hiding names es = map (λ e. (e, names)) es

-- a default and a value see the parameters before them
abbrev pub in_parameters : List (List ℕ) → List ParameterRow → List (Shape × List (List ℕ))
in_parameters names [] = []
in_parameters names (p ∷ ps) = hiding names (shapes_of p.default ++ shapes_of p.value) ++ in_parameters (names ++ p.name ∷ []) ps

-- the pairs of `env` see no parameter
abbrev pub in_env : List (Shape × Shape) → List Shape
in_env [] = []
in_env ((key, value) ∷ pairs) = key ∷ value ∷ in_env pairs

abbrev pub in_prompt : Option (Option Shape) → List Shape
in_prompt None = []
in_prompt (Some prompt) = shapes_of prompt

abbrev pub in_dependencies : List DependencyRow → List Shape
in_dependencies dependencies = flat_map (λ d. map (λ argument. argument.expression) d.arguments) dependencies

abbrev pub in_piece : Piece → List Shape
in_piece (pieces.text t) = []
in_piece (pieces.interpolation e) = e ∷ []

abbrev pub in_interpreter : Option (Option InterpreterShape) → List Shape
in_interpreter (Some (Some i)) = i.command ∷ i.arguments
in_interpreter (Some None) = []
in_interpreter None = []

-- the expressions of a recipe, each with the parameters that it sees, which hide variables
abbrev pub expressions_in : RecipeRow → List (Shape × List (List ℕ))
expressions_in row =
    let all = map (λ p. p.name) row.parameters in
    in_parameters [] row.parameters ++ (hiding [] (in_env row.env)
    ++ hiding all (in_prompt row.confirm ++ (in_dependencies row.priors ++ (in_dependencies row.subsequents ++ (in_interpreter row.script ++ flat_map (flat_map in_piece) row.body)))))

-- a recipe reads a variable of its module
pub record RecipeReads (defined : Definitions) (r : RecipeName) (name : List ℕ) : Type 0 where
  pub row : RecipeRow
  pub there : defined.recipe r ≡ Some row
  pub e : Shape
  pub hidden : List (List ℕ)
  pub stands : Contains (expressions_in row) (e, hidden)
  pub reads : ReadsIn (defined.functions r.path) e hidden name
