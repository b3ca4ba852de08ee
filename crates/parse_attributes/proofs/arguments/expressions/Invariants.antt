-- The expressions that were read, and those that are still to be read.
use Rattle.std.proofs.Common.{◌≡◌, ℕ, ◌<◌, length}
use Rattle.tree_expressions.specs.Shape.{shape_of}
use Rattle.parse_expressions.specs.Literals.{AreCooked}
use Rattle.parse_expressions.specs.Origins.{origin_of}
use Rattle.just_text.specs.Tokens.{word_of}
use Rattle.just_text.specs.declared.token_kind.TokenKind.TheVariants.{ParenR}
use Rattle.parse_expressions.specs.Reading.{ahead}
use Rattle.parse_attributes.specs.Reading.{follow_at, others_at, whole_at}
use Rattle.parse_expressions.specs.Rows.{more_at}
use Rattle.parse_attributes.proofs.Follow.{before}
use Rattle.parse_attributes.proofs.arguments.expressions.Given as goal

abbrev pub invariant-loop-expressions : goal.invariant-loop-expressions
invariant-loop-expressions g l = record {
  turns : ℕ;
  fuel : length (ahead l.cursor) < turns;
  so_far : before shape_of l.expressions.items (follow_at word_of (whole_at word_of (g.E.Expander.expansion l.fn.context.expander.now)) (more_at word_of ParenR) turns (ahead l.cursor))
      ≡ others_at word_of (g.E.Expander.expansion l.fn.context.expander.now) (whole_at word_of (g.E.Expander.expansion l.fn.context.expander.now)) (ahead l.fn.cursor);
  cooked : AreCooked (origin_of g.E.Expander.expansion l.fn.context) l.expressions.items;
}

abbrev pub decreases-loop-expressions : goal.decreases-loop-expressions
decreases-loop-expressions g l = length (ahead l.cursor)
