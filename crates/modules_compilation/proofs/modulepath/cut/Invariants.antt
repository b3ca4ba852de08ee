-- The names so far are the first pieces of the word.
use Rattle.std.proofs.Common.{length}
use denote.Text.{Utf8}
use denote.Shadow.{shadow}
use Rattle.modules_compilation.proofs.Pieces.{IsCutSoFar}
use Rattle.modules_compilation.proofs.modulepath.cut.Given as goal

abbrev pub invariant-loop-name : goal.invariant-loop-name
invariant-loop-name l = shadow (Utf8 l.rest) × IsCutSoFar l.word l.components.items l.rest

abbrev pub decreases-loop-name : goal.decreases-loop-name
decreases-loop-name l = length l.rest
