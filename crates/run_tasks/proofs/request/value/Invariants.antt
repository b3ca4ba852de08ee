-- The words so far.
use Rattle.std.proofs.Common.{◌≡◌}
use Rattle.run_tasks.proofs.request.value.Given as goal

abbrev pub invariant-loop-word : goal.invariant-loop-word
invariant-loop-word l = l.value ≡ l.yielded
