-- The rows so far have other names.
use Rattle.std.proofs.Common.{◌≡◌, drop, map}
use Rattle.evaluate_functions.specs.Names.{row_of, row_with}
use Rattle.evaluate_functions.proofs.function.row_with.Given as goal

abbrev pub invariant-loop-row : goal.invariant-loop-row
invariant-loop-row l = row_with l.name (map row_of (drop l.row-index l.rows)) ≡ row_with l.name (map row_of l.rows)
