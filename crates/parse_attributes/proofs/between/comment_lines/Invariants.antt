-- The comment lines that were taken fall away.
use Rattle.std.proofs.Common.{◌≡◌, length}
use Rattle.just_text.specs.Tokens.{word_of}
use Rattle.parse_expressions.specs.Reading.{ahead}
use Rattle.parse_attributes.specs.Lines.{behind_comments}
use Rattle.parse_attributes.proofs.between.comment_lines.Given as goal

abbrev pub invariant-loop : goal.invariant-loop
invariant-loop l = behind_comments word_of (ahead l.cursor) ≡ behind_comments word_of (ahead l.initial.cursor)

abbrev pub decreases-loop : goal.decreases-loop
decreases-loop l = length (ahead l.cursor)
