-- So many so far.
use Rattle.std.proofs.Common.{◌≡◌}
use Rattle.evaluate_variables.specs.Given.{times_over}
use Rattle.evaluate_variables.proofs.parameters.repeated.Given as goal

abbrev pub invariant-loop : goal.invariant-loop
invariant-loop l = l.list ≡ times_over l.counter l.value
