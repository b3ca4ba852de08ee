-- Which variables lazy modules evaluate.
use Rattle.std.specs.Prelude.{◌≡◌, ◌↔◌, ℕ, Bool, true, false, not, List, [], map, Option, Some, None}
use Rattle.std.specs.BTreeSet.{BTreeSet}
use Rattle.std.specs.List.{list_any}
use Rattle.evaluate_context.specs.declared.settings.Settings.{Settings}
use Rattle.analyze_calls.specs.declared.call.Call.{Call}
use Rattle.resolve_analysis.specs.Opening.{IsEvaluated}
use Rattle.resolve_analysis.specs.Unions.{Has}
use Rattle.resolve_analysis.specs.declared.recipes.ResolvedRecipe.{ResolvedRecipe}
use Rattle.resolve_analysis.specs.declared.variables.ModuleVariables.{ModuleVariables}
use Rattle.run_tasks.specs.declared.task.Task.{Task}
use Rattle.run_tasks.specs.declared.task.Task.TheVariants as tasks

-- a module evaluates only what is wanted
abbrev pub is_lazy : List Settings → Bool
is_lazy settings = list_any (λ (s : Settings). s.lazy) settings

-- the recipes that a task calls
abbrev pub called_by : Task → List ℕ
called_by (tasks.Run calls) = map (λ (call : Call). call.recipe) calls.items
called_by (tasks.Evaluate target) = []
called_by (tasks.Command words) = []

-- all variables are evaluated where values are asked for, and where no module is lazy
abbrev pub wants_all : List Settings → Task → Bool
wants_all settings (tasks.Evaluate target) = true
wants_all settings (tasks.Run calls) = not (is_lazy settings)
wants_all settings (tasks.Command words) = not (is_lazy settings)

module _ (variables : ModuleVariables) (recipes : List ResolvedRecipe) (settings : List Settings) (task : Task) (no_dependencies : Bool) where
  -- no variables are named where all are evaluated; else those are that the task's recipes evaluate
  abbrev pub IsWanted : Option (BTreeSet ℕ) → Type 0
  IsWanted None = wants_all settings task ≡ true
  IsWanted (Some numbers) = (wants_all settings task ≡ false) × ((number : ℕ) → Has numbers number ↔ IsEvaluated variables recipes settings (called_by task) no_dependencies number)
