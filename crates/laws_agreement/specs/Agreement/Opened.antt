-- What is asked of what is defined, and of what was opened, so that what recipes read means what is read.
use Rattle.std.specs.Prelude.{◌≡◌, ℕ, List, true, map, Some, None, Ok, Contains, length}
use Rattle.std.specs.Str.{bytes_eq}
use Rattle.tree_expressions.specs.Shape.{Shape}
use Rattle.just_value.specs.Constants.{constant_rows}
use Rattle.meaning_dialogues.specs.Dialogue.{around}
use Rattle.meaning_dialogues.specs.Evaluation.{Value}
use Rattle.meaning_rules.specs.Naming.{a_call, occurrences}
use Rattle.meaning_runs.specs.Told.{Answers}
use Rattle.meaning_runs.specs.Counts.{each_once}
use Rattle.meaning_evaluation.specs.Named.{RecipeName, VariableName, Call, RecipeRow, VariableRow, FunctionRow, ModuleRow, Definitions, paths_of}
use Rattle.meaning_evaluation.specs.Scopes.{Configuration}
use Rattle.just_meaning.specs.Opening.{IsReached, IsOpened, Opened, named, text_named, held}
use Rattle.just_meaning.specs.Reading.{Reaches, RecipeReads, expressions_in, function_row}
use Rattle.just_meaning.specs.Runs.{values_at}
use Rattle.just_meaning.specs.Meanings.{variables_at, VariableMeans}
use Rattle.just_meaning.specs.Steady.{AreSteady}
use Rattle.laws_agreement.specs.Agreement.Kinds.{FallsAlong}

-- a name that is read in a module: a variable, or a constant that nothing overrides
pub data StandsFor (defined : Definitions) (path : List (List ℕ)) (name : List ℕ) : Type 0 where
  a_variable : {row : VariableRow} → defined.variable (named path name) ≡ Some row → StandsFor defined path name
  a_constant : {text : List ℕ} → defined.variable (named path name) ≡ None → defined.override (named path name) ≡ None → text_named name constant_rows ≡ Some text → StandsFor defined path name

-- What the rules of files say of recipes of a kind: each is in a module, each name that it reads stands for something, and its calls of functions fit.
pub record AreResolved (defined : Definitions) (Of : RecipeName → Type 0) : Type 0 where
  pub modules : (r : RecipeName) → Of r → (row : ModuleRow) × (defined.inside r.path ≡ Some row)
  pub names : (r : RecipeName) (name : List ℕ) → Of r → RecipeReads defined r name → StandsFor defined r.path name
  pub fits : (r : RecipeName) (row : RecipeRow) (e : Shape) (hidden : List (List ℕ)) (inner : Shape) (others : List (List ℕ)) (name : List ℕ) (count : ℕ) (f : FunctionRow) → Of r → defined.recipe r ≡ Some row → Contains (expressions_in row) (e, hidden)
      → Reaches (defined.functions r.path) e hidden inner others → Contains (occurrences inner) (a_call name count) → function_row name (defined.functions r.path) ≡ Some f → count ≡ length f.parameters

-- a variable is held with the value that it means
pub record HoldsMeaning (c : Configuration) (defined : Definitions) (f : Answers) (n : ℕ) (opened : List Opened) (x : VariableName) : Type 0 where
  pub value : Value
  pub holds : held x.name (values_at x.path opened) ≡ Some value
  pub means : variables_at c defined f n x.path around (record { name = x.name; number = None }) ≡ Some (Ok value)

-- What was opened: each variable that opens is held with the value that it means, nothing else is held, and no name is held twice.
pub record AreOpened (c : Configuration) (defined : Definitions) (f : Answers) (n : ℕ) (opened : List Opened) (invoked : List RecipeName) : Type 0 where
  pub means : (x : VariableName) → IsOpened defined c.no_dependencies invoked x → HoldsMeaning c defined f n opened x
  pub only : (x : VariableName) (value : Value) → held x.name (values_at x.path opened) ≡ Some value → IsOpened defined c.no_dependencies invoked x
  pub once : (path : List (List ℕ)) → each_once bytes_eq (map (λ h. h.name) (values_at path opened)) ≡ true

-- The names of a module's variables are all listed.
pub record AreListed (defined : Definitions) : Type 0 where
  pub lists : (x : VariableName) (row : VariableRow) → defined.variable x ≡ Some row → Contains (defined.names x.path) x.name

-- What a run of calls rests on, besides its opening: what the rules of files say, and that recipes' dependencies have no cycle.
pub record AreRunnable (c : Configuration) (defined : Definitions) (calls : List Call) (rank : RecipeName → ℕ) : Type 0 where
  pub resolved : AreResolved defined (IsReached defined c.no_dependencies (map (λ call. call.recipe) calls))
  pub steady : AreSteady defined
  pub listed : AreListed defined
  pub inside : (path : List (List ℕ)) (row : ModuleRow) → defined.inside path ≡ Some row → Contains (paths_of defined.modules) path
  pub falling : FallsAlong defined rank

-- a variable is held with a value that it means, from some depth on
pub record IsHeldMeant (c : Configuration) (defined : Definitions) (f : Answers) (opened : List Opened) (x : VariableName) : Type 0 where
  pub value : Value
  pub holds : held x.name (values_at x.path opened) ≡ Some value
  pub means : VariableMeans c defined f x (Ok value)
