-- The options that were read, and those that are still to be read.
use Rattle.std.proofs.Common.{◌≡◌, ℕ, ◌<◌, length}
use Rattle.std.specs.List.{All}
use Rattle.parse_attributes.specs.Held.{IsCookedGiven, given_shape}
use Rattle.just_text.specs.Tokens.{word_of}
use Rattle.just_text.specs.declared.token_kind.TokenKind.TheVariants.{ParenR}
use Rattle.parse_expressions.specs.Origins.{origin_of}
use Rattle.parse_expressions.specs.Reading.{ahead}
use Rattle.parse_attributes.specs.Reading.{follow_at, others_at, option_at}
use Rattle.parse_expressions.specs.Rows.{more_at}
use Rattle.parse_attributes.proofs.Follow.{before}
use Rattle.parse_attributes.proofs.arguments.options.Given as goal

abbrev pub invariant-loop-options : goal.invariant-loop-options
invariant-loop-options g l = record {
  turns : ℕ;
  fuel : length (ahead l.cursor) < turns;
  so_far : before given_shape l.options.items (follow_at word_of (option_at word_of (g.E.Expander.expansion l.fn.context.expander.now)) (more_at word_of ParenR) turns (ahead l.cursor))
      ≡ others_at word_of (g.E.Expander.expansion l.fn.context.expander.now) (option_at word_of (g.E.Expander.expansion l.fn.context.expander.now)) (ahead l.fn.cursor);
  cooked : All (IsCookedGiven (origin_of g.E.Expander.expansion l.fn.context)) l.options.items;
}

abbrev pub decreases-loop-options : goal.decreases-loop-options
decreases-loop-options g l = length (ahead l.cursor)
