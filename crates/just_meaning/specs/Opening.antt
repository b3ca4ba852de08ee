-- Which variables open, and what modules open with, for every host.
use Rattle.std.specs.Prelude.{◌≡◌, ℕ, List, [], ◌∷◌, ◌++◌, Bool, true, false, ◌||◌, cond, Option, Some, None, Result, Ok, Err, map, Contains, codes}
use Rattle.std.specs.Str.{bytes_eq}
use Rattle.just_host.specs.declared.entry.Entry.{Entry}
use Rattle.just_host.specs.declared.job.Pair.{Pair}
use Rattle.just_value.specs.Constants.{constant_rows}
use Rattle.meaning_dialogues.specs.Faults.{Fault}
use Rattle.meaning_dialogues.specs.Dialogue.{Dialogue, Ends, DialogueGoes, Variable, Reading}
use Rattle.meaning_dialogues.specs.Terms.{Term}
use Rattle.meaning_dialogues.specs.Evaluation.{Value, dialogue}
use Rattle.evaluate_context.specs.Surroundings.{Standing}
use Rattle.meaning_evaluation.specs.Stages.Stages.{run_stage, calls_allowed}
use Rattle.meaning_dialogues.specs.Calls.{unreadable}
use Rattle.meaning_evaluation.specs.Named.{RecipeName, VariableName, RecipeRow, VariableRow, ModuleRow, Definitions}
use Rattle.meaning_dialogues.specs.Written.{term_in, unnumbered}
use Rattle.meaning_evaluation.specs.Scopes.{defined_in, Configuration, Scene, surroundings_in, exported_pair}
use Rattle.just_meaning.specs.Reading.{VariableReads, RecipeReads}
use Rattle.meaning_runs.specs.Counts.{each_once}
use Rattle.meaning_evaluation.specs.Requests.{OpeningFailure, Requests, opening}

abbrev pub named : List (List ℕ) → List ℕ → VariableName
named path name = record { path = path; name = name }

abbrev pub module_says : Option ModuleRow → (ModuleRow → Bool) → Bool
module_says None says = false
module_says (Some row) says = says row

abbrev pub variable_says : Option VariableRow → (VariableRow → Bool) → Bool
variable_says None says = false
variable_says (Some row) says = says row

-- exported by its keyword, or by the module's setting
abbrev pub is_exported : Definitions → VariableName → Bool
is_exported defined x = variable_says (defined.variable x) (λ row. row.export || module_says (defined.inside x.path) (λ m. m.export))

-- the names that a module's variables export, in byte order
abbrev pub exported_from : Definitions → List (List ℕ) → List (List ℕ) → List (List ℕ)
exported_from defined path [] = []
exported_from defined path (name ∷ names) = cond (is_exported defined (named path name)) (name ∷ exported_from defined path names) (exported_from defined path names)

abbrev pub exported_names : Definitions → List (List ℕ) → List (List ℕ)
exported_names defined path = exported_from defined path (defined.names path)

-- ---- which open

-- what is invoked, and what it depends on through any chain, unless dependencies are left out
pub data IsReached (defined : Definitions) (no_dependencies : Bool) (invoked : List RecipeName) : RecipeName → Type 0 where
  by_words : {r : RecipeName} → Contains invoked r → IsReached defined no_dependencies invoked r
  by_recipe : {r d : RecipeName} {row : RecipeRow} → no_dependencies ≡ false → IsReached defined no_dependencies invoked r → defined.recipe r ≡ Some row
      → Contains (map (λ dependency. dependency.on) (row.priors ++ row.subsequents)) d → IsReached defined no_dependencies invoked d

-- Which variables are evaluated before the first recipe: all of a module that isn't lazy; of a lazy one the eager and the exported, those that reached
-- recipes read, and those that these read, unless they are overridden.
pub data IsOpened (defined : Definitions) (no_dependencies : Bool) (invoked : List RecipeName) : VariableName → Type 0 where
  not_lazy : {x : VariableName} {row : VariableRow} → defined.variable x ≡ Some row → module_says (defined.inside x.path) (λ m. m.lazy) ≡ false → IsOpened defined no_dependencies invoked x
  eager : {x : VariableName} {row : VariableRow} → defined.variable x ≡ Some row → row.eager ≡ true → IsOpened defined no_dependencies invoked x
  exported : {x : VariableName} {row : VariableRow} → defined.variable x ≡ Some row → is_exported defined x ≡ true → IsOpened defined no_dependencies invoked x
  by_recipe : {x : VariableName} {row : VariableRow} {r : RecipeName} → defined.variable x ≡ Some row → IsReached defined no_dependencies invoked r → r.path ≡ x.path → RecipeReads defined r x.name
      → IsOpened defined no_dependencies invoked x
  by_variable : {x y : VariableName} {row : VariableRow} → defined.variable x ≡ Some row → IsOpened defined no_dependencies invoked y → y.path ≡ x.path → defined.override y ≡ None → VariableReads defined y x.name
      → IsOpened defined no_dependencies invoked x

-- an order of the variables of a module that open: each once, and after all that it reads
pub record IsOrder (defined : Definitions) (Opened : VariableName → Type 0) (path : List (List ℕ)) (names : List (List ℕ)) : Type 0 where
  pub once : each_once bytes_eq names ≡ true
  pub all : (name : List ℕ) → Opened (named path name) → Contains names name
  pub only : (name : List ℕ) → Contains names name → Opened (named path name)
  pub behind : (earlier : List (List ℕ)) (name : List ℕ) (later : List (List ℕ)) → names ≡ earlier ++ name ∷ later → defined.override (named path name) ≡ None
      → (other : List ℕ) (row : VariableRow) → defined.variable (named path other) ≡ Some row → VariableReads defined (named path name) other → Contains earlier other

-- ---- what a variable stands for

-- what a variable stands for: its override or a constant's text, or its right side
pub data Side : Type 0 where
  stands : List ℕ → Side
  evaluates : Term → Side

abbrev pub text_named : List ℕ → List (List ℕ × List ℕ) → Option (List ℕ)
text_named name [] = None
text_named name ((other, text) ∷ rows) = cond (bytes_eq other name) (Some text) (text_named name rows)

abbrev pub constant_side : Option (List ℕ) → Option Side
constant_side None = None
constant_side (Some text) = Some (stands text)

module _ (c : Configuration) (defined : Definitions) (path : List (List ℕ)) where
  -- its override, else its right side; a name that is no variable may be a constant's
  abbrev pub side_by : Option (List ℕ) → Option VariableRow → Option (List ℕ) → Option Side
  side_by (Some text) variable constant = Some (stands text)
  side_by None (Some row) constant = Some (evaluates (term_in c.expansion row.file unnumbered row.value))
  side_by None None constant = constant_side constant

  abbrev pub side_of : Variable → Option Side
  side_of x = side_by (defined.override (named path x.name)) (defined.variable (named path x.name)) (text_named x.name constant_rows)

-- no recipe, no pairs of attributes, no dependency; around a variable's expression nothing is exported, around the bodies of functions what the module's frame holds
abbrev pub opening_standing : List Pair → Standing
opening_standing out = record { exported = out; env = []; is_dependency = false; recipe = None }

abbrev pub side_dialogue : Configuration → Scene → Side → Dialogue Value
side_dialogue c scene (stands text) = Ends (Ok (text ∷ []))
side_dialogue c scene (evaluates term) =
    let here = surroundings_in c scene in
    dialogue (run_stage here scene.functions (opening_standing []) (calls_allowed here scene.functions (opening_standing scene.exported))) term

-- a module's scene, with its pairs and what its frame exports
abbrev pub scene_in : Configuration → Definitions → List (List ℕ) → ModuleRow → List Pair → List Pair → Scene
scene_in c defined path row pairs out = record {
  path = path;
  row = row;
  functions = map (defined_in c.expansion) (defined.functions path);
  dotenv = pairs;
  exported = out;
}

-- ---- opening a module

-- a variable that is evaluated
pub record Held : Type 0 where
  pub name : List ℕ
  pub value : Value

abbrev pub held : List ℕ → List Held → Option Value
held name [] = None
held name (h ∷ hs) = cond (bytes_eq h.name name) (Some h.value) (held name hs)

abbrev pub read_by : Option Value → Option (List ℕ) → List ℕ → Result Value Fault
read_by (Some value) constant name = Ok value
read_by None (Some text) name = Ok (text ∷ [])
read_by None None name = Err (unreadable (codes "unevaluated") name)

-- variables are read in what is evaluated, else as constants
abbrev pub reading_in : List Held → Reading
reading_in values place x = read_by (held x.name values) (text_named x.name constant_rows) x.name

abbrev pub pairs_of : Definitions → List (List ℕ) → List Held → List Pair
pairs_of defined path [] = []
pairs_of defined path (h ∷ hs) = exported_pair (is_exported defined (named path h.name)) h.name h.value ++ pairs_of defined path hs

-- a module that is open
pub record Opened : Type 0 where
  pub path : List (List ℕ)
  pub pairs : List Pair
  pub values : List Held

module _ (c : Configuration) (defined : Definitions) where
  -- variables in this order, each by those before it; a fault ends it
  pub data Fills (path : List (List ℕ)) (row : ModuleRow) (pairs : List Pair) : List Held → List (List ℕ) → List Entry → List Entry → Result (List Held) Fault → Type 0 where
    all : {values : List Held} {log : List Entry} → Fills path row pairs values [] log log (Ok values)
    has_value : {values : List Held} {name : List ℕ} {names : List (List ℕ)} {old mid new : List Entry} {side : Side} {r : Result (List Held) Fault} (value : Value)
        → side_of c defined path (record { name = name; number = None }) ≡ Some side
        → DialogueGoes (reading_in values) (side_dialogue c (scene_in c defined path row pairs (pairs_of defined path values)) side) old mid (Ok value)
        → Fills path row pairs (values ++ (record { name = name; value = value }) ∷ []) names mid new r → Fills path row pairs values (name ∷ names) old new r
    has_none : {values : List Held} {name : List ℕ} {names : List (List ℕ)} {old new : List Entry} {side : Side} {fault : Fault}
        → side_of c defined path (record { name = name; number = None }) ≡ Some side
        → DialogueGoes (reading_in values) (side_dialogue c (scene_in c defined path row pairs (pairs_of defined path values)) side) old new (Err fault)
        → Fills path row pairs values (name ∷ names) old new (Err fault)

  -- one module: its pairs, and then its variables in some order
  pub data OpensOne (Open : VariableName → Type 0) (path : List (List ℕ)) : List Entry → List Entry → Result Opened OpeningFailure → Type 0 where
    not_told : {row : ModuleRow} {old new : List Entry} {fault : OpeningFailure} → defined.inside path ≡ Some row → Requests row.request old new (Err fault) → OpensOne Open path old new (Err fault)
    opened : {row : ModuleRow} {old mid new : List Entry} {pairs : List Pair} {names : List (List ℕ)} {values : List Held} → defined.inside path ≡ Some row → Requests row.request old mid (Ok pairs)
        → IsOrder defined Open path names → Fills path row pairs [] names mid new (Ok values) → OpensOne Open path old new (Ok (record { path = path; pairs = pairs; values = values }))
    refused : {row : ModuleRow} {old mid new : List Entry} {pairs : List Pair} {names : List (List ℕ)} {fault : Fault} → defined.inside path ≡ Some row → Requests row.request old mid (Ok pairs)
        → IsOrder defined Open path names → Fills path row pairs [] names mid new (Err fault) → OpensOne Open path old new (Err (opening fault))

  -- modules in order; the first fault ends it
  pub data OpensAll (Open : VariableName → Type 0) : List (List (List ℕ)) → List Entry → List Entry → Result (List Opened) OpeningFailure → Type 0 where
    none_left : {log : List Entry} → OpensAll Open [] log log (Ok [])
    one_more : {path : List (List ℕ)} {paths : List (List (List ℕ))} {old mid new : List Entry} {o : Opened} {os : List Opened}
        → OpensOne Open path old mid (Ok o) → OpensAll Open paths mid new (Ok os) → OpensAll Open (path ∷ paths) old new (Ok (o ∷ os))
    fault_here : {path : List (List ℕ)} {paths : List (List (List ℕ))} {old new : List Entry} {fault : OpeningFailure}
        → OpensOne Open path old new (Err fault) → OpensAll Open (path ∷ paths) old new (Err fault)
    fault_later : {path : List (List ℕ)} {paths : List (List (List ℕ))} {old mid new : List Entry} {o : Opened} {fault : OpeningFailure}
        → OpensOne Open path old mid (Ok o) → OpensAll Open paths mid new (Err fault) → OpensAll Open (path ∷ paths) old new (Err fault)
