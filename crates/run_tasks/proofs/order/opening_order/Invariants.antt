-- What has opened, and what waits.
use Rattle.run_tasks.proofs.Prepared.Waiting.{OpenSoFar}
use Rattle.run_tasks.proofs.order.opening_order.Given as goal

abbrev pub invariant-loop : goal.invariant-loop
invariant-loop l = OpenSoFar l.modules l.counter l.order.items l.open.items
