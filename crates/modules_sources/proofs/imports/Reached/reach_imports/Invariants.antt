-- The files so far are reached.
use Rattle.std.proofs.Common.{◌≡◌, ℕ, List, map, take}
use Rattle.modules_files.specs.Chosen.{view}
use Rattle.modules_sources.specs.Reached.{AreReached}
use Rattle.modules_sources.proofs.Reaching.{AreSoFar}
use Rattle.modules_sources.proofs.imports.Reached.reach_imports.Given as goal

abbrev pub invariant-loop-source : goal.invariant-loop-source
invariant-loop-source l = record {
  imports : l.self.imports ≡ l.initial.self.imports;
  reached : (keys : List (List ℕ)) → AreReached keys l.initial.self → AreSoFar keys (map view (take l.source-index l.found)) l.self l.row.items (map view l.new.items);
}
