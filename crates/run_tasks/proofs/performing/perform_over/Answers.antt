-- Over the recipes that are planned.
use Rattle.std.proofs.Common.{refl}
use Rattle.run_tasks.specs.Prepared.Begun.{nothing_planned}
use Rattle.run_tasks.proofs.Prepared.Beginnings.{planned_begun}
use Rattle.run_tasks.proofs.Prepared.Running.{planned_so}
use Rattle.run_tasks.proofs.performing.perform_over.Goals as goal

pub returns-clause-performs : goal.returns-clause-performs
returns-clause-performs g c =
    planned_so _ _ _ _ _ _ _ _ _ c.in_ok-recipes.recipes.items c.as_mut_slice-recipes.result.now c.as_mut_slice-recipes.ensures.value c.in_ok-recipes.ensures c.perform_planned.ensures.performs

pub returns-clause-begun : goal.returns-clause-begun
returns-clause-begun g c =
    planned_begun _ _ _ _ _ _ _ c.in_ok-recipes.recipes.items c.as_mut_slice-recipes.result.now c.as_mut_slice-recipes.ensures.value c.in_ok-recipes.ensures c.perform_planned.ensures.begun

pub returns-in_err-recipes-clause-begun : goal.returns-in_err-recipes-clause-begun
returns-in_err-recipes-clause-begun g c = nothing_planned refl
