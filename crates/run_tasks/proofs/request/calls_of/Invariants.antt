-- The calls so far.
use Rattle.std.proofs.Common.{◌≡◌, map}
use Rattle.analyze_calls.specs.Calls.{rows}
use Rattle.run_tasks.specs.Requested.Words.{called}
use Rattle.run_tasks.proofs.request.calls_of.Given as goal

abbrev pub invariant-loop-invocation : goal.invariant-loop-invocation
invariant-loop-invocation l = rows l.calls.items ≡ map called l.yielded
