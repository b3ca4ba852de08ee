-- When no opening, no run, no evaluation of values and no handing over of a command ends with `internal`: each name that is read or called stands for something, and calls are of recipes that are there.
use Rattle.std.specs.Prelude.{◌≡◌, ℕ, ◌⊎◌, ◌++◌, List, [], Bool, false, map, length, Some, None, Err, IsSome, Contains}
use Rattle.std.specs.List.{AllByRecursion}
use Rattle.tree_expressions.specs.Shape.{Shape}
use Rattle.just_host.specs.declared.entry.Entry.{Entry}
use Rattle.evaluate_functions.specs.Names.{function_of}
use Rattle.meaning_dialogues.specs.Faults.{Fault}
use Rattle.meaning_dialogues.specs.Evaluation.{Value}
use Rattle.meaning_rules.specs.Naming.{a_call, occurrences}
use Rattle.meaning_evaluation.specs.Requests.{opening}
use Rattle.meaning_runs.specs.Failures.{evaluation}
use Rattle.meaning_runs.specs.Tallies.{Tally}
use Rattle.meaning_evaluation.specs.Named.{RecipeName, VariableName, Call, DependencyRow, RecipeRow, VariableRow, FunctionRow, ModuleRow, Definitions, paths_of}
use Rattle.meaning_evaluation.specs.Scopes.{Configuration}
use Rattle.meaning_evaluation.specs.Groups.{parameters_of}
use Rattle.just_meaning.specs.Opening.{IsReached, IsOpened, Opened, OpensAll, named, held}
use Rattle.just_meaning.specs.Reading.{Reaches, RecipeReads, VariableReads, expressions_in, function_row}
use Rattle.just_meaning.specs.Actions.{ActionEnd, CommandGoes, EvaluateGoes, IsKept}
use Rattle.just_meaning.specs.Runs.{HasRun, Runs, Outcome, failed, not_opened, values_at}
use Rattle.laws_agreement.specs.Agreement.Opened.{StandsFor, AreResolved}
use Rattle.meaning_dialogues.specs.Internal.{is_internal}
use Rattle.just_meaning.specs.Certain.{IsCertainActionEnd}

-- What is known of recipes of a kind: each has a row and is in a module, each name that it reads stands for something, its calls of functions fit, and what it calls else is built in.
pub record AreCertain (defined : Definitions) (Of : RecipeName → Type 0) : Type 0 where
  pub resolved : AreResolved defined Of
  pub rows : (r : RecipeName) → Of r → (row : RecipeRow) × (defined.recipe r ≡ Some row)
  pub builtin : (r : RecipeName) (row : RecipeRow) (e : Shape) (hidden : List (List ℕ)) (inner : Shape) (others : List (List ℕ)) (name : List ℕ) (count : ℕ) → Of r → defined.recipe r ≡ Some row → Contains (expressions_in row) (e, hidden)
      → Reaches (defined.functions r.path) e hidden inner others → Contains (occurrences inner) (a_call name count) → function_row name (defined.functions r.path) ≡ None → IsSome (function_of name)

-- What recipes of a kind depend on is of the kind too, unless dependencies are left out.
pub record DependOnTheirs (leaves_out : Bool) (defined : Definitions) (Of : RecipeName → Type 0) : Type 0 where
  pub depends : leaves_out ≡ false → (r : RecipeName) (row : RecipeRow) (d : DependencyRow) → Of r → defined.recipe r ≡ Some row → Contains (row.priors ++ row.subsequents) d → Of d.on

-- What is known of variables of a kind that nothing overrides: each name that one reads stands for something, its calls of functions fit, and what it calls else is built in.
pub record AreCertainVariables (defined : Definitions) (Open : VariableName → Type 0) : Type 0 where
  pub names : (x : VariableName) (name : List ℕ) → Open x → defined.override x ≡ None → VariableReads defined x name → StandsFor defined x.path name
  pub fits : (x : VariableName) (row : VariableRow) (inner : Shape) (others : List (List ℕ)) (name : List ℕ) (count : ℕ) (f : FunctionRow) → Open x → defined.override x ≡ None → defined.variable x ≡ Some row
      → Reaches (defined.functions x.path) row.value [] inner others → Contains (occurrences inner) (a_call name count) → function_row name (defined.functions x.path) ≡ Some f → count ≡ length f.parameters
  pub builtin : (x : VariableName) (row : VariableRow) (inner : Shape) (others : List (List ℕ)) (name : List ℕ) (count : ℕ) → Open x → defined.override x ≡ None → defined.variable x ≡ Some row
      → Reaches (defined.functions x.path) row.value [] inner others → Contains (occurrences inner) (a_call name count) → function_row name (defined.functions x.path) ≡ None → IsSome (function_of name)

-- A call of a recipe of a kind, with a group for each of its parameters.
pub record IsCertainCall (defined : Definitions) (Of : RecipeName → Type 0) (call : Call) : Type 0 where
  pub of : Of call.recipe
  pub groups : length call.groups ≡ length (parameters_of (defined.recipe call.recipe))

-- Each variable that recipes of a kind read is held.
pub record HoldsRead (defined : Definitions) (Of : RecipeName → Type 0) (opened : List Opened) : Type 0 where
  pub holds : (r : RecipeName) (name : List ℕ) (row : VariableRow) → Of r → RecipeReads defined r name → defined.variable (named r.path name) ≡ Some row → (value : Value) × (held name (values_at r.path opened) ≡ Some value)

-- No opening of such variables ends with `internal`.
abbrev pub OpeningIsCertain : Configuration → Definitions → (VariableName → Type 0) → Type 0
OpeningIsCertain c defined Open = (paths : List (List (List ℕ))) (old new : List Entry) (fault : Fault)
    → AreCertainVariables defined Open → OpensAll c defined Open paths old new (Err (opening fault)) → is_internal fault ≡ false

-- No run of such calls over what was opened ends with `internal`.
abbrev pub RunIsCertain : Configuration → Definitions → (RecipeName → Type 0) → List Opened → Type 0
RunIsCertain c defined Of opened = (calls : List Call) (old new : List Entry) (t t' : Tally) (fault : Fault)
    → AreCertain defined Of → HoldsRead defined Of opened → AllByRecursion (IsCertainCall defined Of) calls
    → HasRun c defined opened calls old t new t' (Some (evaluation fault)) → is_internal fault ≡ false

-- No opening for invocations ends with `internal`, where all that opens for them is so.
abbrev pub OpeningsAreCertain : Type 0
OpeningsAreCertain = (c : Configuration) (defined : Definitions) (invoked : List RecipeName) → OpeningIsCertain c defined (IsOpened defined c.no_dependencies invoked)

-- No run of calls of what invocations reach ends with `internal`, where all that is reached is so and what it reads is held.
abbrev pub RunsAreCertain : Type 0
RunsAreCertain = (c : Configuration) (defined : Definitions) (invoked : List RecipeName) (opened : List Opened) → RunIsCertain c defined (IsReached defined c.no_dependencies invoked) opened

-- No run from its opening on ends with `internal`, where all that opens and all that is reached is so, each module is in the tree, and each call has a group for each parameter.
abbrev pub RunsEndCertainly : Type 0 → Type 0
RunsEndCertainly Rule = (c : Configuration) (defined : Definitions) (calls : List Call) (old new : List Entry) (t t' : Tally) (outcome : Outcome Rule) (fault : Fault)
    → AreCertain defined (IsReached defined c.no_dependencies (map (λ call. call.recipe) calls)) → AreCertainVariables defined (IsOpened defined c.no_dependencies (map (λ call. call.recipe) calls))
    → ((path : List (List ℕ)) (row : ModuleRow) → defined.inside path ≡ Some row → Contains (paths_of defined.modules) path)
    → AllByRecursion (λ call. length call.groups ≡ length (parameters_of (defined.recipe call.recipe))) calls
    → Runs c defined calls old t new t' outcome → (outcome ≡ failed (evaluation fault)) ⊎ (outcome ≡ not_opened (opening fault)) → is_internal fault ≡ false

-- No evaluation of values ends with `internal`, where all variables are so.
abbrev pub EvaluationsEndCertainly : Type 0
EvaluationsEndCertainly = (c : Configuration) (defined : Definitions) (writes : Bool) (words : List (List ℕ)) (old new : List Entry) (end : ActionEnd)
    → AreCertainVariables defined (IsKept defined) → EvaluateGoes c defined writes words old new end → IsCertainActionEnd end

-- No handing over of one command ends with `internal`, where all that opens without an invocation is so.
abbrev pub CommandsEndCertainly : Type 0
CommandsEndCertainly = (c : Configuration) (defined : Definitions) (words : List (List ℕ)) (old new : List Entry) (end : ActionEnd)
    → AreCertainVariables defined (IsOpened defined c.no_dependencies []) → CommandGoes c defined words old new end → IsCertainActionEnd end
