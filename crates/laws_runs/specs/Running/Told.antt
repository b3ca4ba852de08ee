-- Values that are told, and the job of the one command, by places and by names.
use Rattle.std.specs.Prelude.{◌≡◌, ◌<◌, ℕ, List, [], Some, length, slice_get}
use Rattle.std.specs.String.{string_bytes}
use Rattle.tree_expressions.specs.Shape.{Shape}
use Rattle.just_value.specs.declared.positional.Override.{Override}
use Rattle.evaluate_context.specs.declared.context.ExecutionContext.{ExecutionContext}
use Rattle.modules_compilation.specs.declared.compilation.Compilation.{Compilation}
use Rattle.resolve_analysis.specs.declared.analysis.Analysis.{Analysis}
use Rattle.just_resolve.specs.Analysis.{IsAnalysis}
use Rattle.justfile_analyzer.specs.declared.target.EvaluationTarget.{EvaluationTarget}
use Rattle.justfile_analyzer.specs.declared.target.EvaluationTarget.TheVariants as targets
use Rattle.run_tasks.specs.Commands.{words_job}
use Rattle.run_tasks.specs.Tasks.{values_text}
use Rattle.run_tasks.specs.declared.task.Task.{Task}
use Rattle.run_tasks.specs.declared.task.TaskContext.{TaskContext}
use Rattle.meaning_dialogues.specs.Evaluation.{Value}
use Rattle.meaning_rules.specs.Worlds.Given.{Text, World}
use Rattle.meaning_rules.specs.Overrides.{overrides_of}
use Rattle.laws_names.specs.Reading.Meant.{IsNumberedWorld}
use Rattle.meaning_evaluation.specs.Named.{ModuleRow}
use Rattle.just_meaning.specs.Actions.{Target, command_job, evaluated_text}
use Rattle.just_meaning.specs.Opening.{Opened}
use Rattle.laws_runs.specs.Resolved.Definitions.{definitions_of}
use Rattle.laws_runs.specs.Settings.Settled.{AllSettle}
use Rattle.laws_runs.specs.Menus.Targets.{IsNamedTarget}
use Rattle.laws_agreement.specs.Grounds.Alike.{AreOpenAlike}
use Rattle.just_meaning.specs.Configured.{configuration_of}
use Rattle.laws_runs.specs.Running.Opened.{AreReady}
use Rattle.laws_runs.specs.Running.Steps.{defined}

-- the module whose variables are told is one of the compilation
abbrev pub IsThere : Compilation → EvaluationTarget → Type 0
IsThere compilation (targets.Module place) = place < length compilation.modules.items
IsThere compilation (targets.Variable place number) = Unit {0}

-- Over modules that are open alike, the text of values by places is that by names.
abbrev pub ValuesAreNamed : Type 0
ValuesAreNamed = (w : World) (compilation : Compilation) → IsNumberedWorld w compilation → (given : List Override) (base : Text) (analysis : Analysis) → IsAnalysis compilation base given analysis
    → (settle : ℕ → Shape → Value) (working : Text) (contexts : List ExecutionContext) (opened : List Opened) → AreOpenAlike compilation analysis contexts opened
    → (target : EvaluationTarget) → IsThere compilation target → (named : Target) → IsNamedTarget compilation analysis.variables.lists.items (Some target) (Some named)
    → values_text contexts target ≡ evaluated_text (definitions_of compilation w.expansion (overrides_of given) settle base working) opened named

-- Over modules that are open alike and what else a run rests on, the job of a command in the root module by places is that by names.
abbrev pub JobsAreNamed : Type 0
JobsAreNamed = (w : World) (compilation : Compilation) → IsNumberedWorld w compilation → (given : List Override) (analysis : Analysis) (settled : AllSettle w (overrides_of given) compilation analysis.values.value.settings.items)
    (task : Task) (context : TaskContext) → IsAnalysis compilation (string_bytes context.config.now.base) given analysis
    → (contexts : List ExecutionContext) (opened : List Opened) → AreOpenAlike compilation analysis contexts opened
    → AreReady w compilation given (string_bytes context.config.now.base) analysis settled task context contexts opened
    → (here : ExecutionContext) → slice_get contexts 0 ≡ Some here
    → (row : ModuleRow) → (defined w compilation given (string_bytes context.config.now.base) analysis settled context.config.now context.root.now).inside [] ≡ Some row
    → (command : Text) (words : List Text)
    → words_job here command words
    ≡ command_job (configuration_of context.config.now context.root.now w.expansion) (defined w compilation given (string_bytes context.config.now.base) analysis settled context.config.now context.root.now) row opened command words
