-- With the rows of the functions to come, the rows are those of all.
use Rattle.std.proofs.Common.{◌≡◌, drop}
use Rattle.resolve_order.specs.Needs.{rows}
use Rattle.resolve_analysis.specs.Lists.{functions_in}
use Rattle.resolve_analysis.specs.Reads.{bodies, rows_before, rows_of}
use Rattle.resolve_analysis.proofs.module_reads.read_functions.Given as goal

abbrev pub invariant-loop-lent : goal.invariant-loop-lent
invariant-loop-lent l = rows_before (rows l.graph.items) (rows_of l.resolver (bodies (functions_in (drop l.lent-index l.functions)))) ≡ rows_before (rows l.initial.graph.items) (rows_of l.resolver (bodies (functions_in l.functions)))
