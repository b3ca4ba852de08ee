-- The request that an action and its words make, by the places of recipes, modules and variables.
use Rattle.std.specs.Prelude.{◌≡◌, ◌≢◌, ℕ, List, [], Some}
use Rattle.modules_compilation.specs.declared.compilation.Compilation.{Compilation}
use Rattle.modules_compilation.specs.declared.module_node.ModuleNode.{ModuleNode}
use Rattle.resolve_analysis.specs.declared.analysis.Analysis.{Analysis}
use Rattle.resolve_analysis.specs.declared.module_lists.ModuleLists.{ModuleLists}
use Rattle.analyze_calls.specs.Calls.{CallRow, rows}
use Rattle.justfile_analyzer.specs.declared.target.EvaluationTarget.{EvaluationTarget}
use Rattle.run_tasks.specs.declared.task.Task.TheVariants as tasks
use Rattle.run_tasks.specs.Requested.Words.{InvokesAt, values_of}
use Rattle.run_tasks.specs.declared.action.Action.{Action}
use Rattle.run_tasks.specs.declared.action.Action.TheVariants as actions
use Rattle.run_tasks.specs.declared.request.Request.{Request}
use Rattle.run_tasks.specs.declared.request.Request.TheVariants as requests
use Rattle.run_tasks.specs.declared.request.RootText.{RootText}
use Rattle.run_tasks.specs.declared.request.RootText.TheVariants as texts

-- these calls run; without calls the recipes are listed
abbrev pub RunsCalls : List CallRow → Request → Type 0
RunsCalls calls (requests.Task (tasks.Run all)) = rows all.items ≡ calls
RunsCalls calls (requests.Task (tasks.Evaluate target)) = ⊥
RunsCalls calls (requests.Task (tasks.Command words)) = ⊥
RunsCalls calls (requests.Plan all) = ⊥
RunsCalls calls (requests.Text texts.List) = calls ≡ []
RunsCalls calls (requests.Text texts.Dump) = ⊥
RunsCalls calls (requests.Text texts.Format) = ⊥

-- a run of these calls is planned; without calls the recipes are listed
abbrev pub PlansCalls : List CallRow → Request → Type 0
PlansCalls calls (requests.Task task) = ⊥
PlansCalls calls (requests.Plan all) = rows all.items ≡ calls
PlansCalls calls (requests.Text texts.List) = calls ≡ []
PlansCalls calls (requests.Text texts.Dump) = ⊥
PlansCalls calls (requests.Text texts.Format) = ⊥

-- these words, one at least, are the command
abbrev pub HandsOver : List (List ℕ) → Request → Type 0
HandsOver words (requests.Task (tasks.Run calls)) = ⊥
HandsOver words (requests.Task (tasks.Evaluate target)) = ⊥
HandsOver words (requests.Task (tasks.Command command)) = (command.now ≡ words) × (words ≢ [])
HandsOver words (requests.Plan calls) = ⊥
HandsOver words (requests.Text text) = ⊥

-- this text of the root module, where there are no words
abbrev pub TellsText : RootText → List (List ℕ) → Request → Type 0
TellsText text words request = (words ≡ []) × (request ≡ requests.Text text)

-- the values of what the words name
abbrev pub TellsValues : List ModuleNode → List ModuleLists → List (List ℕ) → Request → Type 0
TellsValues modules lists words request = (target : EvaluationTarget) × (values_of modules lists words ≡ Some target) × (request ≡ requests.Task (tasks.Evaluate target))

module _ (compilation : Compilation) (analysis : Analysis) (words : List (List ℕ)) where
  -- so it is of the calls that the words invoke
  abbrev pub OfInvoked : (List CallRow → Request → Type 0) → Request → Type 0
  OfInvoked Asks request = (calls : List CallRow) × InvokesAt compilation analysis.table.value analysis.values.value.settings.items words calls × Asks calls request

  -- what the action and the words ask for
  abbrev pub IsAskedFor : Action → Request → Type 0
  IsAskedFor actions.Run request = OfInvoked RunsCalls request
  IsAskedFor actions.Plan request = OfInvoked PlansCalls request
  IsAskedFor actions.Evaluate request = TellsValues compilation.modules.items analysis.variables.lists.items words request
  IsAskedFor actions.Command request = HandsOver words request
  IsAskedFor actions.Dump request = TellsText texts.Dump words request
  IsAskedFor actions.Format request = TellsText texts.Format words request
  IsAskedFor actions.List request = TellsText texts.List words request
