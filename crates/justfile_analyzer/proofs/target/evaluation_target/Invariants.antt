-- What was found so far, and the names that are left.
use Rattle.std.proofs.Common.{◌≡◌, Some, length}
use denote.Text.{Utf8}
use denote.Shadow.{shadow}
use Rattle.modules_compilation.specs.Modulepaths.{pieces}
use Rattle.justfile_analyzer.specs.Targets.{AreInOrder, leads_from, target_of}
use Rattle.justfile_analyzer.proofs.target.evaluation_target.Given as goal

abbrev pub invariant-loop-name : goal.invariant-loop-name
invariant-loop-name l = shadow (Utf8 l.rest) × (AreInOrder l.modules → leads_from l.modules l.lists l.found (pieces l.rest) ≡ target_of l.modules l.lists l.word)

abbrev pub decreases-loop-name : goal.decreases-loop-name
decreases-loop-name l = length l.rest
