-- With the variables that are left after them the pairs are those that all give.
use Rattle.std.proofs.Common.{◌≡◌, ◌++◌, map}
use Rattle.evaluate_context.specs.Environment as spec
use Rattle.evaluate_context.proofs.pairs.push_variables.Given as goal

abbrev pub invariant-loop-name : goal.invariant-loop-name
invariant-loop-name l = l.pairs ++ map spec.variable l.name-iterator ≡ l.initial.pairs ++ map spec.variable l.variables.entries
