-- The tally begins at nothing.
use Rattle.run_tasks.proofs.Prepared.Beginnings.{tally_begun}
use Rattle.run_tasks.proofs.Prepared.Running.{begun}
use Rattle.run_tasks.proofs.performing.perform_planned.Goals as goal

pub returns-clause-performs : goal.returns-clause-performs
returns-clause-performs g c = begun _ _ _ _ _ _ _ _ c.new-tally.result _ c.new-tally.ensures c.perform.ensures.performs

pub returns-clause-begun : goal.returns-clause-begun
returns-clause-begun g c = tally_begun _ _ _ _ _ _ c.new-tally.result c.new-tally.ensures c.perform.ensures.begun
