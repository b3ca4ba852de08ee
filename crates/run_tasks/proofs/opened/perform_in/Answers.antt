-- The task is done over these contexts.
use Rattle.std.proofs.Common.{refl}
use Rattle.run_tasks.specs.declared.task.Task.TheVariants as tasks
use Rattle.run_tasks.proofs.Beginnings.{root_begun}
use Rattle.run_tasks.proofs.Doing.{command_performed, values_told}
use Rattle.run_tasks.proofs.opened.perform_in.Goals as goal

pub returns-in-Run-clause-asks : goal.returns-in-Run-clause-asks
returns-in-Run-clause-asks g c = rw c.in-Run.is (λ kinds questions may. c.run.ensures.asks kinds questions may.0 may.1)

pub returns-in-Command-clause-asks : goal.returns-in-Command-clause-asks
returns-in-Command-clause-asks g c = rw c.in-Command.is (λ kinds questions may. c.command.ensures.asks kinds may)

pub returns-in-Run-clause-performs : goal.returns-in-Run-clause-performs
returns-in-Run-clause-performs g c = rw c.in-Run.is (c.run.ensures.fits, c.run.ensures.performs)

pub returns-in-Evaluate-clause-performs : goal.returns-in-Evaluate-clause-performs
returns-in-Evaluate-clause-performs g c = rw c.in-Evaluate.is (values_told c.in-Evaluate.target _ _ c.evaluate.result _ c.evaluate.ensures)

pub returns-in-Command-clause-performs : goal.returns-in-Command-clause-performs
returns-in-Command-clause-performs g c = rw c.in-Command.is (command_performed g.H.Host.goes _ c.command.result _ (tasks.Command c.in-Command.words) tt refl (λ fault. tt) _ _ c.command.ensures.commands)

pub returns-in-Run-clause-begun : goal.returns-in-Run-clause-begun
returns-in-Run-clause-begun g c = rw c.in-Run.is c.run.ensures.begun

pub returns-in-Evaluate-clause-begun : goal.returns-in-Evaluate-clause-begun
returns-in-Evaluate-clause-begun g c = rw c.in-Evaluate.is refl

pub returns-in-Command-clause-begun : goal.returns-in-Command-clause-begun
returns-in-Command-clause-begun g c = rw c.in-Command.is (root_begun g.H.Host.goes _ c.command.result _ _ _ c.command.ensures.commands)
