-- White space that is skipped changes nothing ahead.
use Rattle.std.proofs.Common.{◌≡◌, length}
use Rattle.parse_expressions.specs.Reading.{ahead}
use Rattle.parse_expressions.proofs.cursor.Cursor.skip_whitespace.Given as goal

abbrev pub invariant-loop-self : goal.invariant-loop-self
invariant-loop-self l = ahead l.self ≡ ahead l.initial.self

abbrev pub decreases-loop-self : goal.decreases-loop-self
decreases-loop-self l = length l.self.rest.now
