-- The first recipes are planned.
use Rattle.run_tasks.proofs.Prepared.Planning.{PlannedSoFar}
use Rattle.run_tasks.proofs.planned.plan.Given as goal

abbrev pub invariant-loop-resolved : goal.invariant-loop-resolved
invariant-loop-resolved l = PlannedSoFar l.compilation l.recipes l.resolved-index l.all.items
