-- The groups so far.
use Rattle.std.proofs.Common.{◌≡◌}
use Rattle.run_tasks.proofs.request.call.Given as goal

abbrev pub invariant-loop-words : goal.invariant-loop-words
invariant-loop-words l = l.values.items ≡ l.yielded
