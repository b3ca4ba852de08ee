-- The attributes that were read, and those that are still to be read.
use Rattle.std.proofs.Common.{◌≡◌, ℕ, ◌<◌, length}
use Rattle.just_text.specs.Tokens.{word_of}
use Rattle.parse_expressions.specs.Origins.{origin_of}
use Rattle.parse_expressions.specs.Reading.{ahead}
use Rattle.parse_attributes.specs.Reading.{another_at, attribute_at, attributes_at, follow_at}
use Rattle.parse_attributes.specs.Seen.{AreWholeReads, read_shape}
use Rattle.parse_attributes.proofs.Follow.{before}
use Rattle.parse_attributes.proofs.attribute.read_all.Given as goal

abbrev pub invariant-loop-attributes : goal.invariant-loop-attributes
invariant-loop-attributes g l = record {
  turns : ℕ;
  fuel : length (ahead l.cursor) < turns;
  so_far : before read_shape l.attributes.items (follow_at word_of (attribute_at word_of (g.E.Expander.expansion l.fn.context.expander.now)) (another_at word_of) turns (ahead l.cursor))
      ≡ attributes_at word_of (g.E.Expander.expansion l.fn.context.expander.now) (ahead l.fn.cursor);
  whole : AreWholeReads (origin_of g.E.Expander.expansion l.fn.context) l.attributes.items;
}

abbrev pub decreases-loop-attributes : goal.decreases-loop-attributes
decreases-loop-attributes g l = length (ahead l.cursor)
