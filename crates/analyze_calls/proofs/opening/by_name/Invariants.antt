-- With the pairs that are left after them the entries are those of all.
use Rattle.analyze_calls.proofs.Openings.{HoldsSoFar}
use Rattle.analyze_calls.proofs.opening.by_name.Given as goal

abbrev pub invariant-loop-pair : goal.invariant-loop-pair
invariant-loop-pair l = HoldsSoFar l.values.entries l.pair-iterator.rest.items l.fn.pairs
