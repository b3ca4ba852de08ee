-- Tasks open modules by names as they open them by places.
use Rattle.std.specs.Prelude.{List}
use Rattle.just_host.specs.declared.entry.Entry.{Entry}
use Rattle.just_value.specs.declared.positional.Override.{Override}
use Rattle.modules_compilation.specs.declared.compilation.Compilation.{Compilation}
use Rattle.evaluate_context.specs.declared.context.ModuleView.{ModuleView}
use Rattle.resolve_analysis.specs.declared.analysis.Analysis.{Analysis}
use Rattle.resolve_analysis.specs.declared.recipes.RecipeTable.{RecipeTable}
use Rattle.analyze_calls.specs.Calls.{rows}
use Rattle.analyze_calls.specs.declared.opening.Opening.{Opening as Opens}
use Rattle.run_tasks.specs.declared.task.Task.{Task}
use Rattle.run_tasks.specs.declared.task.Task.TheVariants as tasks
use Rattle.run_tasks.specs.declared.task.TaskContext.{TaskContext}
use Rattle.meaning_rules.specs.Worlds.Given.{Given, Text, World}
use Rattle.meaning_rules.specs.Worlds.Standing.{StandsFor}
use Rattle.meaning_rules.specs.Overrides.{overrides_of}
use Rattle.laws_runs.specs.Settings.Settled.{AllSettle}
use Rattle.laws_runs.specs.Menus.Calls.{CallsAreThere}
use Rattle.laws_runs.specs.Running.Opened.{IsTaskOf, OpenByNames}

-- the calls of a task are of a table's recipes
abbrev pub CalledAreThere : RecipeTable → Task → Type 0
CalledAreThere table (tasks.Run calls) = CallsAreThere table (rows calls.items)
CalledAreThere table (tasks.Evaluate target) = Unit {0}
CalledAreThere table (tasks.Command words) = Unit {0}

-- In a world that arguments stand for, modules open by names as they open by places, where the calls of a task are of a table's recipes.
abbrev pub TasksOpenByNames : Type 0
TasksOpenByNames = (w : World) (compilation : Compilation) (given : List Override) (base : Text) (analysis : Analysis) (settled : AllSettle w (overrides_of given) compilation analysis.values.value.settings.items)
    (task : Task) (context : TaskContext) (modules : List ModuleView) (opens : Opens) → IsTaskOf w compilation given base analysis settled task context modules opens
    → (source : Given) → StandsFor source w → CalledAreThere analysis.table.value task
    → (old new : List Entry) → OpenByNames w compilation given base analysis settled task context modules opens old new
