use Rattle.std.proofs.Common.{◌≡◌, length}
use Rattle.just_text.specs.Tokens.{word_of}
use Rattle.parse_expressions.specs.Reading.{ahead}
use Rattle.parse_recipes.specs.Bodies.{behind_blank}
use Rattle.parse_recipes.proofs.body.blank_lines.Given as goal

abbrev pub invariant-loop : goal.invariant-loop
invariant-loop l = behind_blank word_of (ahead l.cursor) ≡ behind_blank word_of (ahead l.initial.cursor)

abbrev pub decreases-loop : goal.decreases-loop
decreases-loop l = length (ahead l.cursor)
