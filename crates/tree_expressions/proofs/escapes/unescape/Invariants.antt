-- What was read so far, and what the rest stands for.
use Rattle.std.proofs.Common.{length}
use Rattle.std.specs.Prelude.{string_bytes}
use denote.Text.{Utf8}
use denote.Shadow.{shadow}
use Rattle.tree_expressions.specs.Escaping.{unescaped}
use Rattle.tree_expressions.proofs.Turns.{ReadSoFar}
use Rattle.tree_expressions.proofs.escapes.unescape.Given as goal

abbrev pub invariant-loop-c : goal.invariant-loop-c
invariant-loop-c l = shadow (Utf8 l.begun) × ReadSoFar (string_bytes l.unescaped) l.escape l.begun l.rest.rest.now (unescaped l.text)

abbrev pub decreases-loop-c : goal.decreases-loop-c
decreases-loop-c l = length l.rest.rest.now
