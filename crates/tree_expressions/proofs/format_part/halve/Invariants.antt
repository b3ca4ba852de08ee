-- What was halved so far, and then the rest halved, is the text halved.
use Rattle.std.proofs.Common.{◌≡◌, ◌++◌, length}
use Rattle.std.specs.Prelude.{string_bytes}
use denote.Text.{Utf8}
use denote.Shadow.{shadow}
use Rattle.tree_expressions.specs.Parts.{halved}
use Rattle.tree_expressions.proofs.format_part.halve.Given as goal

abbrev pub invariant-loop-before : goal.invariant-loop-before
invariant-loop-before l = shadow (Utf8 l.rest) × (string_bytes l.halved ++ halved l.rest ≡ halved l.text)

abbrev pub decreases-loop-before : goal.decreases-loop-before
decreases-loop-before l = length l.rest
