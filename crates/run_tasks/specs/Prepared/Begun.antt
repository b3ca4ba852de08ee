-- How far a task in a resolved justfile was recorded, however it ended.
use Rattle.std.specs.Prelude.{◌≡◌, ℕ, List, length, map}
use Rattle.just_host.specs.declared.config.Config.{Config}
use Rattle.just_host.specs.declared.entry.Entry.{Entry}
use Rattle.evaluate_context.specs.declared.context.ModuleView.{ModuleView}
use Rattle.modules_compilation.specs.declared.compilation.Compilation.{Compilation}
use Rattle.analyze_calls.specs.declared.plan.Planned.{Planned}
use Rattle.resolve_analysis.specs.Views.{seen, views_of}
use Rattle.resolve_analysis.specs.declared.analysis.Analysis.{Analysis}
use Rattle.resolve_analysis.specs.declared.recipes.ResolvedRecipe.{ResolvedRecipe}
use Rattle.run_tasks.specs.Begun.{Begins}
use Rattle.run_tasks.specs.declared.task.Task.{Task}
use Rattle.run_tasks.specs.declared.task.TaskContext.{TaskContext}
use Rattle.run_tasks.specs.Prepared.Performed.{IsContextOf}
use Rattle.run_tasks.specs.Prepared.Planned.{ArePlanned}

-- the task begins with a tally at nothing
abbrev pub BeginsOver : TaskContext → List ModuleView → List Planned → Task → List Entry → List Entry → Type 0
BeginsOver context modules recipes task old new = Begins context modules recipes task old (record { calls = 0; entered = 0 }) new

-- nothing was recorded; or a beginning of the task over the recipes that are planned
pub data BeginsPlanned (compilation : Compilation) (resolved : List ResolvedRecipe) (context : TaskContext) (modules : List ModuleView) (task : Task) (old new : List Entry) : Type 0 where
  nothing_planned : new ≡ old → BeginsPlanned compilation resolved context modules task old new
  begins_planned : (recipes : List Planned) → ArePlanned compilation resolved recipes → BeginsOver context modules recipes task old new → BeginsPlanned compilation resolved context modules task old new

module _ (compilation : Compilation) (analysis : Analysis) where
  -- nothing was recorded; or a beginning of the task over what evaluation sees of the modules, and over the recipes
  pub data BeginsIn (context : TaskContext) (task : Task) (old new : List Entry) : Type 0 where
    nothing_in : new ≡ old → BeginsIn context task old new
    begins_in : (modules : List ModuleView) → map seen modules ≡ views_of analysis.modules.now analysis.variables analysis.values.value (length analysis.modules.now)
        → (recipes : List Planned) → ArePlanned compilation analysis.table.value.recipes.items recipes → BeginsOver context modules recipes task old new → BeginsIn context task old new

  -- What was recorded is the beginning of what the task records: nothing, or a beginning of it with what it rests on.
  pub data BeginsTask (config : Config) (root : List ℕ) (task : Task) (old new : List Entry) : Type 0 where
    nothing_of : new ≡ old → BeginsTask config root task old new
    begins_of : (context : TaskContext) → IsContextOf compilation analysis config root task context → BeginsIn context task old new → BeginsTask config root task old new
