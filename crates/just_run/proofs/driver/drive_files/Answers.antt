use Rattle.std.proofs.Common.{ap, refl, Err}
use Rattle.just_run.specs.Passed.{file_fault}
use Rattle.just_run.specs.Sources.{broken, clear}
use Rattle.just_run.proofs.Failed.{file_is_no_write, no_write_fails}
use Rattle.just_run.proofs.driver.drive_files.Goals as goal

pub returns-in-Err-clause-unfailed : goal.returns-in-Err-clause-unfailed
returns-in-Err-clause-unfailed g c = rw c.from.ensures (no_write_fails (g.O.Out.failed c.args.out.now) (file_fault c.in-Err.error) (file_is_no_write c.in-Err.error))

pub returns-in-Ok-clause-sources : goal.returns-in-Ok-clause-sources
returns-in-Ok-clause-sources g c = λ start above read w stands. let none = c.in-Ok.ensures.clear start read w stands in clear none (c.drive_compilation.ensures.names c.in-Ok.ensures.by_name _ w stands refl none (c.in-Ok.ensures.meant start above read w stands) (c.in-Ok.ensures.told start read))

pub returns-in-Err-clause-sources : goal.returns-in-Err-clause-sources
returns-in-Err-clause-sources g c = λ start above read w stands. broken c.in-Err.error (ap Err c.from.ensures) (c.in-Err.ensures.broken start read w stands)
