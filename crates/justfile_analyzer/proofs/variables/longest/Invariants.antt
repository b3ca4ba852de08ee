-- With the names that are left the longest one is that of all.
use Rattle.std.proofs.Common.{◌≡◌, drop, max}
use Rattle.justfile_analyzer.specs.Variables.{longest}
use Rattle.justfile_analyzer.proofs.variables.longest.Given as goal

abbrev pub invariant-loop-variable : goal.invariant-loop-variable
invariant-loop-variable l = max l.longest (longest (drop l.variable-index l.variables)) ≡ longest l.variables
