-- With the rows of the variables to come, the rows are those of all.
use Rattle.std.proofs.Common.{◌≡◌, drop}
use Rattle.resolve_order.specs.Needs.{rows}
use Rattle.resolve_analysis.specs.Lists.{variables_in}
use Rattle.resolve_analysis.specs.Reads.{right_sides, rows_before, rows_of}
use Rattle.resolve_analysis.proofs.module_reads.read_variables.Given as goal

abbrev pub invariant-loop-lent : goal.invariant-loop-lent
invariant-loop-lent l = rows_before (rows l.graph.items) (rows_of l.resolver (right_sides (variables_in (drop l.lent-index l.assignments)))) ≡ rows_before (rows l.initial.graph.items) (rows_of l.resolver (right_sides (variables_in l.assignments)))
