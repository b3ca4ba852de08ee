-- How far a task in a resolved justfile was recorded, by how far its parts were.
use Rattle.std.proofs.Common.{◌≡◌, List, subst, length, map}
use Rattle.just_host.specs.declared.entry.Entry.{Entry}
use Rattle.evaluate_context.specs.declared.context.ModuleView.{ModuleView}
use Rattle.modules_compilation.specs.declared.compilation.Compilation.{Compilation}
use Rattle.analyze_calls.specs.declared.plan.Planned.{Planned}
use Rattle.analyze_calls.specs.Runs.Tallies.{tally_of}
use Rattle.analyze_calls.specs.declared.tally.Tally.{Tally}
use Rattle.resolve_analysis.specs.Views.{seen, views_of}
use Rattle.resolve_analysis.specs.declared.analysis.Analysis.{Analysis}
use Rattle.resolve_analysis.specs.declared.recipes.ResolvedRecipe.{ResolvedRecipe}
use Rattle.run_tasks.specs.Begun.{Begins}
use Rattle.run_tasks.specs.declared.task.Task.{Task}
use Rattle.run_tasks.specs.declared.task.TaskContext.{TaskContext}
use Rattle.run_tasks.specs.Prepared.Begun.{BeginsIn, BeginsOver, BeginsPlanned, begins_in, begins_planned, nothing_in, nothing_planned}
use Rattle.run_tasks.specs.Prepared.Planned.{ArePlanned}

module _ (context : TaskContext) (modules : List ModuleView) (task : Task) (old new : List Entry) where
  -- a tally that begins at nothing
  pub tally_begun : (recipes : List Planned) (t : Tally) → t ≡ record { calls = 0; entered = 0 } → Begins context modules recipes task old (tally_of t) new → BeginsOver context modules recipes task old new
  tally_begun recipes t is begins = subst (λ (s : Tally). Begins context modules recipes task old (tally_of s) new) is begins

  -- over recipes that are planned
  pub planned_begun : (compilation : Compilation) (resolved : List ResolvedRecipe) (planned planned' : List Planned) → planned' ≡ planned → ArePlanned compilation resolved planned
      → BeginsOver context modules planned' task old new → BeginsPlanned compilation resolved context modules task old new
  planned_begun compilation resolved planned planned' same are begins = begins_planned planned are (subst (λ ps. BeginsOver context modules ps task old new) same begins)

  -- over what evaluation sees of the modules
  pub views_begun : (compilation : Compilation) (analysis : Analysis) (resolved : List ResolvedRecipe) → resolved ≡ analysis.table.value.recipes.items
      → map seen modules ≡ views_of analysis.modules.now analysis.variables analysis.values.value (length analysis.modules.now)
      → BeginsPlanned compilation resolved context modules task old new → BeginsIn compilation analysis context task old new
  views_begun compilation analysis resolved same views (nothing_planned nothing) = nothing_in nothing
  views_begun compilation analysis resolved same views (begins_planned recipes are begins) =
      begins_in modules views recipes (subst (λ rs. ArePlanned compilation rs recipes) same are) begins
