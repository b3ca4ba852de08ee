-- With the recipes that are left the column is that of all.
use Rattle.std.proofs.Common.{◌≡◌, drop, map, max}
use Rattle.justfile_analyzer.specs.Listings.{column, listed}
use Rattle.justfile_analyzer.proofs.listing.column.Given as goal

abbrev pub invariant-loop-row : goal.invariant-loop-row
invariant-loop-row l = max l.column (column (map listed (drop l.row-index l.rows))) ≡ column (map listed l.rows)
