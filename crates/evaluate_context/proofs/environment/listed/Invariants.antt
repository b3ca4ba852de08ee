-- With the entries that are left after them the pairs are all entries.
use Rattle.std.proofs.Common.{◌≡◌, ◌++◌, map}
use Rattle.evaluate_context.specs.Environment as spec
use Rattle.evaluate_context.proofs.environment.listed.Given as goal

abbrev pub invariant-loop-name : goal.invariant-loop-name
invariant-loop-name l = l.pairs ++ map spec.pair_at l.name-iterator ≡ map spec.pair_at l.fn.values.entries
