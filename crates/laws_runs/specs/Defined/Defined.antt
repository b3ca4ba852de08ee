-- What is known of a resolved justfile by places is what its world defines by paths and names.
use Rattle.std.specs.Prelude.{◌≡◌, ℕ, List, Some, map}
use Rattle.analyze_calls.specs.Calls.{CallRow}
use Rattle.analyze_words.specs.declared.fault.WordFault.{WordFault}
use Rattle.just_value.specs.declared.positional.Override.{Override}
use Rattle.modules_compilation.specs.declared.compilation.Compilation.{Compilation}
use Rattle.resolve_analysis.specs.declared.analysis.Analysis.{Analysis}
use Rattle.just_resolve.specs.Analysis.{IsAnalysis}
use Rattle.just_resolve.specs.Rules.{IsResolvable}
use Rattle.meaning_rules.specs.Worlds.Given.{Text, World}
use Rattle.laws_runs.specs.Resolved.Definitions.{definitions_of}
use Rattle.laws_runs.specs.Settings.Settled.{AllSettle}
use Rattle.meaning_rules.specs.Overrides.{overrides_of}
use Rattle.meaning_runs.specs.Invokes.{Invoke}
use Rattle.meaning_evaluation.specs.Named.{Definitions, RecipeName}
use Rattle.just_meaning.specs.Defining.{AreDefined}
use Rattle.just_meaning.specs.Actions.{Target}
use Rattle.just_meaning.specs.Actions.{target_of as values_named}
use Rattle.just_meaning.specs.Menus.{menu_of}
use Rattle.justfile_analyzer.specs.declared.target.EvaluationTarget.{EvaluationTarget}
use Rattle.just_meaning.specs.Known.{HaveRows, IsRead}
use Rattle.laws_runs.specs.Menus.Named.{name_at}
use Rattle.laws_runs.specs.Menus.Targets.{IsNamedTarget}
use Rattle.run_tasks.specs.Requested.Words.{BreaksNamed, BreaksPlaced, InvokesAt, MeansNamed, MeansPlaced, values_of}
use Rattle.run_tasks.specs.declared.action.Action.{Action}

-- a call by the path and the name of its recipe
abbrev pub named_call : Compilation → Analysis → CallRow → RecipeName × List (List (List ℕ))
named_call compilation analysis call = (name_at compilation analysis.table.value call.recipe, call.groups)

-- there is what the world defines, by which words mean what they mean by places, and invoke the same calls
pub record IsDefinedBy (w : World) (compilation : Compilation) (given : List Override) (base working : Text) (analysis : Analysis) (words : List Text) : Type 0 where
  pub settled : AllSettle w (overrides_of given) compilation analysis.values.value.settings.items
  pub defined : Definitions
  pub is : defined ≡ definitions_of compilation w.expansion (overrides_of given) settled.settle base working
  pub are : AreDefined w (overrides_of given) base working defined
  pub read : IsRead w
  pub rows : HaveRows defined
  pub breaks : (action : Action) (fault : WordFault) → BreaksPlaced compilation analysis words action fault → BreaksNamed defined words action fault
  pub means : (action : Action) → MeansPlaced compilation analysis words action → MeansNamed defined words action
  pub targets : (target : EvaluationTarget) → values_of compilation.modules.items analysis.variables.lists.items words ≡ Some target
      → (named : Target) × (values_named defined words ≡ Some named) × IsNamedTarget compilation analysis.variables.lists.items (Some target) (Some named)
  pub invokes : (calls : List CallRow) → InvokesAt compilation analysis.table.value analysis.values.value.settings.items words calls → Invoke (menu_of defined) words (map (named_call compilation analysis) calls)

-- so it is of each analysis of a justfile, in each world that the justfile stands for
abbrev pub AnalysesAreDefined : Type 0
AnalysesAreDefined = (w : World) (compilation : Compilation) → IsResolvable w compilation → (given : List Override) (base : Text) (analysis : Analysis) → IsAnalysis compilation base given analysis
    → (working : Text) (words : List Text) → IsDefinedBy w compilation given base working analysis words
