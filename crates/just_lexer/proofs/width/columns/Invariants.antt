-- The columns so far and those of the rest are those of the text.
use Rattle.std.proofs.Common.{◌≡◌, ◌+◌, ◌*◌, ◌≤◌, length}
use denote.Text.{Utf8}
use denote.Shadow.{shadow}
use Rattle.just_lexer.specs.Columns.{columns}
use Rattle.just_lexer.proofs.width.columns.Given as goal

abbrev pub invariant-loop-piece : goal.invariant-loop-piece
invariant-loop-piece l =
    shadow (Utf8 l.rest) × (l.total + columns l.rest ≡ columns l.text) × (l.total + 4 * length l.rest ≤ 4 * length l.text)

abbrev pub decreases-loop-piece : goal.decreases-loop-piece
decreases-loop-piece l = length l.rest
