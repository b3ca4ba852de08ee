-- What words ask of a justfile, and which rules of words they break.
use Rattle.std.specs.Prelude.{◌≡◌, ◌≢◌, ℕ, List, [], ◌∷◌, map, Option, Some, None}
use Rattle.modules_compilation.specs.declared.compilation.Compilation.{Compilation}
use Rattle.modules_compilation.specs.declared.module_node.ModuleNode.{ModuleNode}
use Rattle.resolve_analysis.specs.declared.analysis.Analysis.{Analysis}
use Rattle.resolve_analysis.specs.declared.module_lists.ModuleLists.{ModuleLists}
use Rattle.resolve_analysis.specs.declared.recipes.RecipeTable.{RecipeTable}
use Rattle.evaluate_context.specs.declared.settings.Settings.{Settings}
use Rattle.analyze_calls.specs.Calls.{CallRow}
use Rattle.analyze_words.specs.Broken.{IsRefusedBy}
use Rattle.analyze_words.specs.Worded.{words_of}
use Rattle.analyze_words.specs.declared.fault.WordFault.{WordFault}
use Rattle.analyze_words.specs.declared.fault.WordFault.TheVariants as faults
use Rattle.analyze_words.specs.declared.menu.Menus.{Menus}
use Rattle.analyze_words.specs.declared.parser.Invocation.{Invocation}
use Rattle.justfile_analyzer.specs.MenusOf.{AreMenusOf}
use Rattle.justfile_analyzer.specs.Targets.{target_of}
use Rattle.justfile_analyzer.specs.declared.target.EvaluationTarget.{EvaluationTarget}
use Rattle.justfile_analyzer.specs.declared.target.EvaluationTarget.TheVariants as targets
use Rattle.meaning_runs.specs.Invokes.{BreaksWords, Invoke, WordRule}
use Rattle.meaning_runs.specs.Words.{Words}
use Rattle.meaning_evaluation.specs.Named.{Definitions, RecipeName}
use Rattle.just_meaning.specs.Actions.{ActionRule, BreaksCommand, BreaksEvaluate, BreaksText, Target, extra_word, missing_command, unknown_variable}
use Rattle.just_meaning.specs.Actions.{target_of as values_named}
use Rattle.just_meaning.specs.Menus.{menu_of}
use Rattle.run_tasks.specs.declared.action.Action.{Action}
use Rattle.run_tasks.specs.declared.action.Action.TheVariants as actions

-- ---- rules of an action's words

-- the rule of an action's words that a refusal names
abbrev pub rule_of : WordFault → Option ActionRule
rule_of (faults.UnknownVariable word) = Some (unknown_variable word)
rule_of (faults.ExtraWord word) = Some (extra_word word)
rule_of faults.MissingCommand = Some missing_command
rule_of faults.OutOfMemory = None
rule_of (faults.UnknownRecipe word) = None
rule_of (faults.UnknownModule word) = None
rule_of (faults.ArgumentCount recipe found) = None
rule_of (faults.UnknownOption recipe word) = None
rule_of (faults.OptionValue recipe word) = None
rule_of faults.NoRecipes = None
rule_of (faults.DefaultNeedsArguments recipe) = None

-- the refusal names a broken rule, unless memory ran out
abbrev pub IsRefusedFor : (ActionRule → Type 0) → WordFault → Type 0
IsRefusedFor Breaks fault = fault ≢ faults.OutOfMemory → (rule : ActionRule) × ((rule_of fault ≡ Some rule) × Breaks rule)

-- By the rules that the words of a run, and those that name what is evaluated, break.
module _ (BreaksRun : WordRule → Type 0) (BreaksValues : ActionRule → Type 0) (words : List (List ℕ)) where
  -- the words break a rule of the action, which the refusal names
  abbrev pub BreaksBy : Action → WordFault → Type 0
  BreaksBy actions.Run fault = IsRefusedBy BreaksRun fault
  BreaksBy actions.Plan fault = IsRefusedBy BreaksRun fault
  BreaksBy actions.Evaluate fault = IsRefusedFor BreaksValues fault
  BreaksBy actions.Command fault = IsRefusedFor (BreaksCommand words) fault
  BreaksBy actions.Dump fault = IsRefusedFor (BreaksText words) fault
  BreaksBy actions.Format fault = IsRefusedFor (BreaksText words) fault
  BreaksBy actions.List fault = IsRefusedFor (BreaksText words) fault

-- By what the words of a run invoke, and what is evaluated.
module _ (Invokes NamesValues : Type 0) (words : List (List ℕ)) where
  -- the words break no rule of the action: those of a run invoke recipes, that of an evaluation names what is evaluated
  abbrev pub MeansBy : Action → Type 0
  MeansBy actions.Run = Invokes
  MeansBy actions.Plan = Invokes
  MeansBy actions.Evaluate = NamesValues
  MeansBy actions.Command = (rule : ActionRule) → BreaksCommand words rule → ⊥
  MeansBy actions.Dump = (rule : ActionRule) → BreaksText words rule → ⊥
  MeansBy actions.Format = (rule : ActionRule) → BreaksText words rule → ⊥
  MeansBy actions.List = (rule : ActionRule) → BreaksText words rule → ⊥

-- ---- by places

-- a call as words ask for it
abbrev pub called : Invocation → CallRow
called invocation = record { recipe = invocation.recipe; groups = invocation.groups.items }

abbrev pub call_of : ℕ × List (List (List ℕ)) → CallRow
call_of row = record { recipe = row.0; groups = row.1 }

module _ (compilation : Compilation) (table : RecipeTable) (settings : List Settings) (words : List (List ℕ)) where
  -- this is so by the menus of the modules
  pub record ByMenus (IsSo : Words ℕ ℕ → Type 0) : Type 0 where
    pub menus : Menus
    pub are : AreMenusOf compilation table settings words menus
    pub is : IsSo (words_of menus)

  abbrev pub BreaksAt : WordRule → Type 0
  BreaksAt rule = ByMenus (λ menu. BreaksWords menu words rule)

  -- the words invoke these calls
  pub record InvokesAt (calls : List CallRow) : Type 0 where
    pub rows : List (ℕ × List (List (List ℕ)))
    pub by_menus : ByMenus (λ menu. Invoke menu words rows)
    pub are : calls ≡ map call_of rows

module _ (modules : List ModuleNode) (lists : List ModuleLists) where
  -- what is evaluated: the root's variables, or what one word names
  abbrev pub values_of : List (List ℕ) → Option EvaluationTarget
  values_of [] = Some (targets.Module 0)
  values_of (word ∷ []) = target_of modules lists word
  values_of (word ∷ other ∷ words) = None

  -- one word at most, which names a module or a variable
  pub data BreaksValuesAt : List (List ℕ) → ActionRule → Type 0 where
    unknown : {word : List ℕ} → target_of modules lists word ≡ None → BreaksValuesAt (word ∷ []) (unknown_variable word)
    extra : {word other : List ℕ} {words : List (List ℕ)} → BreaksValuesAt (word ∷ other ∷ words) (extra_word other)

  abbrev pub NamesValuesAt : List (List ℕ) → Type 0
  NamesValuesAt words = (target : EvaluationTarget) × (values_of words ≡ Some target)

module _ (compilation : Compilation) (analysis : Analysis) (words : List (List ℕ)) where
  abbrev pub BreaksPlaced : Action → WordFault → Type 0
  BreaksPlaced = BreaksBy (BreaksAt compilation analysis.table.value analysis.values.value.settings.items words) (BreaksValuesAt compilation.modules.items analysis.variables.lists.items words) words

  abbrev pub MeansPlaced : Action → Type 0
  MeansPlaced = MeansBy ((calls : List CallRow) × InvokesAt compilation analysis.table.value analysis.values.value.settings.items words calls) (NamesValuesAt compilation.modules.items analysis.variables.lists.items words) words

-- ---- by what is defined

module _ (defined : Definitions) (words : List (List ℕ)) where
  abbrev pub BreaksNamed : Action → WordFault → Type 0
  BreaksNamed = BreaksBy (BreaksWords (menu_of defined) words) (BreaksEvaluate defined words) words

  abbrev pub MeansNamed : Action → Type 0
  MeansNamed = MeansBy ((invocations : List (RecipeName × List (List (List ℕ)))) × Invoke (menu_of defined) words invocations) ((target : Target) × (values_named defined words ≡ Some target)) words
