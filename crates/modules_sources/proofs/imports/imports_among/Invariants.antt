-- The files so far stand before those of the items to come.
use Rattle.std.proofs.Common.{◌≡◌, drop, map}
use Rattle.modules_files.specs.Chosen.{view}
use Rattle.modules_sources.specs.Imports.{before, imports_among}
use Rattle.modules_sources.proofs.imports.imports_among.Given as goal

abbrev pub invariant-loop-item : goal.invariant-loop-item
invariant-loop-item l = before (map view l.found.items) (imports_among l.sources l.key (drop l.item-index l.items)) ≡ imports_among l.sources l.key l.items
