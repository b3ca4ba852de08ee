-- The last modules wait.
use Rattle.run_tasks.proofs.Prepared.Waiting.{LastWait}
use Rattle.run_tasks.proofs.order.push_last_first.Given as goal

abbrev pub invariant-loop-count : goal.invariant-loop-count
invariant-loop-count l = LastWait l.modules l.initial.open.items l.count l.open.items
