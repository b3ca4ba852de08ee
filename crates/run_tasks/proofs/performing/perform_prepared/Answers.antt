-- Over what evaluation sees of the modules.
use Rattle.std.proofs.Common.{refl, ap, ◌∙◌, length, map}
use Rattle.resolve_analysis.specs.Views.{seen, views_of}
use Rattle.resolve_analysis.specs.declared.recipes.RecipeTable.{RecipeTable}
use Rattle.run_tasks.specs.Prepared.Begun.{nothing_in}
use Rattle.run_tasks.proofs.Prepared.Beginnings.{views_begun}
use Rattle.run_tasks.proofs.Prepared.Running.{views_so}
use Rattle.run_tasks.proofs.performing.perform_prepared.Goals as goal

pub returns-clause-performs : goal.returns-clause-performs
returns-clause-performs g c =
    views_so _ c.as_slice.result.now _ _ _ _ _ _ c.args.analysis.now c.as_slice-recipes.result.now (c.as_slice-recipes.ensures.value ∙ ap (λ (t : RecipeTable). t.recipes.items) c.deref-2.ensures) (ap (map seen) c.as_slice.ensures.value ∙ c.in_ok-views.ensures ∙ ap (λ values. views_of c.args.analysis.now.modules.now c.args.analysis.now.variables values (length c.args.analysis.now.modules.now)) c.deref.ensures) c.perform_over.ensures.performs

pub returns-clause-begun : goal.returns-clause-begun
returns-clause-begun g c =
    let modules = c.args.analysis.now.modules.now in
    views_begun _ c.as_slice.result.now _ _ _ _ c.args.analysis.now c.as_slice-recipes.result.now (c.as_slice-recipes.ensures.value ∙ ap (λ (t : RecipeTable). t.recipes.items) c.deref-2.ensures)
    (ap (map seen) c.as_slice.ensures.value ∙ c.in_ok-views.ensures ∙ ap (λ values. views_of modules c.args.analysis.now.variables values (length modules)) c.deref.ensures) c.perform_over.ensures.begun

pub returns-in_err-views-clause-begun : goal.returns-in_err-views-clause-begun
returns-in_err-views-clause-begun g c = nothing_in refl
