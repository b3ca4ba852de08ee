-- Tasks over what was prepared.
use Rattle.std.proofs.Common.{◌≡◌, ℕ, Bool, List, Result, Option, sym, subst, length, map}
use Rattle.std.specs.BTreeSet.{BTreeSet}
use Rattle.just_host.specs.declared.entry.Entry.{Entry}
use Rattle.evaluate_context.specs.declared.context.ModuleView.{ModuleView}
use Rattle.modules_compilation.specs.declared.compilation.Compilation.{Compilation}
use Rattle.meaning_runs.specs.Tallies as runs
use Rattle.analyze_calls.specs.declared.plan.Planned.{Planned}
use Rattle.analyze_calls.specs.Runs.Tallies.{tally_of}
use Rattle.analyze_calls.specs.declared.tally.Tally.{Tally}
use Rattle.resolve_analysis.specs.Views.{seen, views_of}
use Rattle.resolve_analysis.specs.declared.analysis.Analysis.{Analysis}
use Rattle.resolve_analysis.specs.declared.recipes.ResolvedRecipe.{ResolvedRecipe}
use Rattle.run_tasks.specs.Performed.{IfPerformed, Performs, TaskEnd}
use Rattle.run_tasks.specs.declared.fault.TaskFault.{TaskFault}
use Rattle.run_tasks.specs.declared.task.Performed.{Performed}
use Rattle.run_tasks.specs.declared.task.Task.{Task}
use Rattle.run_tasks.specs.declared.task.TaskContext.{TaskContext}
use Rattle.run_tasks.proofs.Ending.{performed_so}
use Rattle.run_tasks.specs.Prepared.Planned.{ArePlanned}
use Rattle.run_tasks.specs.Prepared.Performed.{IsPreparedFor, PerformsIn, PerformsOver}

-- what is prepared for a task stays so by other names
pub prepared_so : (analysis : Analysis) (task task' : Task) (no_dependencies : Bool) (order order' : List ℕ) (wanted wanted' : Option (BTreeSet ℕ)) → task ≡ task' → order' ≡ order → wanted' ≡ wanted
    → IsPreparedFor analysis task no_dependencies order wanted → IsPreparedFor analysis task' no_dependencies order' wanted'
prepared_so analysis task task' no_dependencies order order' wanted wanted' same orders wants is =
    subst (λ t. IsPreparedFor analysis t no_dependencies order' wanted') same
    (subst (λ o. IsPreparedFor analysis task no_dependencies o wanted') (sym orders) (subst (IsPreparedFor analysis task no_dependencies order) (sym wants) is))

module _ (context : TaskContext) (modules : List ModuleView) (task : Task) (old new : List Entry) (exhausted : Bool) (result : Result Performed TaskFault) where
  -- a tally that begins at nothing
  pub begun : (recipes : List Planned) (t : Tally) (t' : runs.Tally) → t ≡ record { calls = 0; entered = 0 } → IfPerformed task exhausted result (Performs context modules recipes task old (tally_of t) new t') → IfPerformed task exhausted result (PerformsOver context modules recipes task old new)
  begun recipes t t' is = performed_so task exhausted result (Performs context modules recipes task old (tally_of t) new t') (PerformsOver context modules recipes task old new)
      (λ end h. (t', subst (λ (s : Tally). Performs context modules recipes task old (tally_of s) new t' end) is h))

  -- over recipes that are planned
  abbrev pub OverPlanned : Compilation → List ResolvedRecipe → TaskEnd → Type 0
  OverPlanned compilation resolved end = (planned : List Planned) × ArePlanned compilation resolved planned × PerformsOver context modules planned task old new end

  pub planned_so : (compilation : Compilation) (resolved : List ResolvedRecipe) (planned planned' : List Planned) → planned' ≡ planned → ArePlanned compilation resolved planned
      → IfPerformed task exhausted result (PerformsOver context modules planned' task old new) → IfPerformed task exhausted result (OverPlanned compilation resolved)
  planned_so compilation resolved planned planned' same are = performed_so task exhausted result (PerformsOver context modules planned' task old new) (OverPlanned compilation resolved)
      (λ end h. (planned, are, subst (λ ps. PerformsOver context modules ps task old new end) same h))

  -- over what evaluation sees of the modules
  pub views_so : (compilation : Compilation) (analysis : Analysis) (resolved : List ResolvedRecipe) → resolved ≡ analysis.table.value.recipes.items
      → map seen modules ≡ views_of analysis.modules.now analysis.variables analysis.values.value (length analysis.modules.now)
      → IfPerformed task exhausted result (OverPlanned compilation resolved) → IfPerformed task exhausted result (PerformsIn compilation analysis context task old new)
  views_so compilation analysis resolved same views = performed_so task exhausted result (OverPlanned compilation resolved) (PerformsIn compilation analysis context task old new)
      (λ end h. record { modules = modules; views = views; recipes = h.0; planned = subst (λ rs. ArePlanned compilation rs h.0) same h.1; performs = h.2 })
