-- What stays of the lines so far, and then what stays of the rest, is the text unindented.
use Rattle.std.proofs.Common.{◌≡◌, ◌++◌, length}
use Rattle.std.specs.Prelude.{string_bytes}
use denote.Text.{Utf8}
use denote.Shadow.{shadow}
use Rattle.tree_expressions.specs.Indentation.{all_kept, lines_of, unindented}
use Rattle.tree_expressions.proofs.indentation.unindent.Given as goal

abbrev pub invariant-loop-run : goal.invariant-loop-run
invariant-loop-run l = shadow (Utf8 l.rest) × (string_bytes l.kept_lines ++ all_kept l.run l.first (lines_of l.rest) ≡ unindented l.text)

abbrev pub decreases-loop-run : goal.decreases-loop-run
decreases-loop-run l = length l.rest
