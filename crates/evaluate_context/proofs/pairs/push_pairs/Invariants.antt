-- The pairs so far stand after those that stood there.
use Rattle.std.proofs.Common.{◌≡◌, ◌++◌, take}
use Rattle.evaluate_context.proofs.pairs.push_pairs.Given as goal

abbrev pub invariant-loop-other : goal.invariant-loop-other
invariant-loop-other l = l.pairs ≡ l.initial.pairs ++ take l.other-index l.others
