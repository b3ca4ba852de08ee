use Rattle.std.proofs.Common.{inr, refl}
use Rattle.std.proofs.lemmas.Result.{err_from_is_err_and}
use Rattle.just_run.specs.Passed.{task_fault}
use Rattle.just_run.proofs.Failed.{no_write_fails, of_run_is_no_write, task_is_of_run}
use Rattle.just_run.proofs.Ran.{ends_ill, ends_well}
use Rattle.just_run.proofs.driver.drive_task.Goals as goal

pub returns-in_err-performed-clause-late : goal.returns-in_err-performed-clause-late
returns-in_err-performed-clause-late g c =
    let p = err_from_is_err_and c.from_residual.result c.from_residual.ensures.1 in
    rw (p.1, p.2) (inr (task_is_of_run c.in_err-performed.field-0.0))

pub returns-in_err-performed-clause-unfailed : goal.returns-in_err-performed-clause-unfailed
returns-in_err-performed-clause-unfailed g c =
    let p = err_from_is_err_and c.from_residual.result c.from_residual.ensures.1 in
    rw (p.1, p.2) (no_write_fails (g.O.Out.failed c.args.out.now) (task_fault c.in_err-performed.field-0.0) (of_run_is_no_write (task_fault c.in_err-performed.field-0.0) (task_is_of_run c.in_err-performed.field-0.0)))

pub returns-in_err-performed-clause-ends : goal.returns-in_err-performed-clause-ends
returns-in_err-performed-clause-ends g c =
    let p = err_from_is_err_and c.from_residual.result c.from_residual.ensures.1 in
    rw (p.1, p.2) (ends_ill _ _ _ _ c.in_err-performed.field-0.0 refl refl c.in_err-performed.ensures.performs)

pub returns-clause-ends : goal.returns-clause-ends
returns-clause-ends g c = ends_well _ _ _ _ c.in_ok-performed.performed c.write_performed.ensures.ran c.write_performed.ensures.wrote c.in_ok-performed.ensures.performs
