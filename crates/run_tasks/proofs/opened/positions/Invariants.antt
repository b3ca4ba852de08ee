-- Each module has the last position of those that were looked at.
use Rattle.analyze_calls.specs.Opening.{opened_rows}
use Rattle.run_tasks.proofs.Standing.{AreSoFar}
use Rattle.run_tasks.proofs.opened.positions.Given as goal

abbrev pub invariant-loop-place : goal.invariant-loop-place
invariant-loop-place l = AreSoFar (opened_rows l.opened) l.count l.place l.positions.items
