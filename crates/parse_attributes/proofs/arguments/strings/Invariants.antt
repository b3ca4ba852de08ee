-- The strings that were read, and those that are still to be read.
use Rattle.std.proofs.Common.{◌≡◌, ℕ, ◌<◌, length}
use Rattle.std.specs.List.{All}
use Rattle.tree_expressions.specs.Shape.{written}
use Rattle.parse_expressions.specs.Strings.{IsCookedString}
use Rattle.just_text.specs.Tokens.{word_of}
use Rattle.just_text.specs.declared.token_kind.TokenKind.TheVariants.{ParenR}
use Rattle.parse_expressions.specs.Reading.{ahead}
use Rattle.parse_attributes.specs.Reading.{follow_at, others_at, text_at}
use Rattle.parse_expressions.specs.Rows.{more_at}
use Rattle.parse_attributes.proofs.Follow.{before}
use Rattle.parse_attributes.proofs.arguments.strings.Given as goal

abbrev pub invariant-loop-strings : goal.invariant-loop-strings
invariant-loop-strings g l = record {
  turns : ℕ;
  fuel : length (ahead l.cursor) < turns;
  so_far : before written l.strings.items (follow_at word_of (text_at word_of (g.E.Expander.expansion l.fn.context.expander.now)) (more_at word_of ParenR) turns (ahead l.cursor))
      ≡ others_at word_of (g.E.Expander.expansion l.fn.context.expander.now) (text_at word_of (g.E.Expander.expansion l.fn.context.expander.now)) (ahead l.fn.cursor);
  cooked : All (IsCookedString (g.E.Expander.expansion l.fn.context.expander.now)) l.strings.items;
}

abbrev pub decreases-loop-strings : goal.decreases-loop-strings
decreases-loop-strings g l = length (ahead l.cursor)
