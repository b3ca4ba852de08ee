-- The lines of the recipes so far are there.
use Rattle.std.proofs.Common.{◌≡◌, ◌++◌, map, take}
use Rattle.std.specs.List.{flat_map}
use Rattle.std.specs.String.{string_bytes}
use Rattle.justfile_analyzer.specs.Listings.{listed, recipe_line}
use Rattle.justfile_analyzer.proofs.listing.push_rows.Given as goal

abbrev pub invariant-loop-row : goal.invariant-loop-row
invariant-loop-row l = string_bytes l.text ≡ string_bytes l.initial.text ++ flat_map (recipe_line l.column) (map listed (take l.row-index l.rows))
