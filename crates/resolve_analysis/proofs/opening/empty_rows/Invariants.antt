-- So many rows, all empty.
use Rattle.std.proofs.Common.{◌≡◌, [], replicate}
use Rattle.resolve_order.specs.Needs.{rows}
use Rattle.resolve_analysis.proofs.opening.empty_rows.Given as goal

abbrev pub invariant-loop : goal.invariant-loop
invariant-loop l = rows l.rows.items ≡ replicate l.counter []
