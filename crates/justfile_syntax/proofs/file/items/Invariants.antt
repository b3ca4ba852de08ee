-- The items that were read, and the entries that are still to be read.
use Rattle.std.proofs.Common.{◌≡◌, ℕ, ◌<◌, length}
use Rattle.std.specs.List.{All}
use Rattle.just_text.specs.Tokens.{word_of}
use Rattle.parse_expressions.specs.Origins.{origin_of}
use Rattle.parse_expressions.specs.Reading.{ahead}
use Rattle.parse_attributed_items.specs.Held.{IsItemCooked, IsOwnItem}
use Rattle.justfile_syntax.specs.Numbered.{AreInOrder}
use Rattle.justfile_syntax.specs.Reading.{entries_at, file_at}
use Rattle.justfile_syntax.specs.Told.{items_read}
use Rattle.justfile_syntax.proofs.EntryTurns.{before}
use Rattle.justfile_syntax.proofs.Frugal.{HasRoom}
use Rattle.justfile_syntax.proofs.file.items.Given as goal

abbrev pub invariant-loop-alloc : goal.invariant-loop-alloc
invariant-loop-alloc g l = record {
  turns : ℕ;
  fuel : length (ahead l.cursor) < turns;
  so_far : before l.items.items (entries_at word_of (g.E.Expander.expansion l.fn.context.expander.now) l.fn.current turns (ahead l.cursor)) ≡ items_read (file_at word_of (g.E.Expander.expansion l.fn.context.expander.now) l.fn.current (ahead l.fn.cursor));
  numbers : AreInOrder l.fn.numerator l.numerator l.items.items;
  room : HasRoom l.items.items (ahead l.cursor) (ahead l.fn.cursor);
  own : All (IsOwnItem (g.E.Expander.expansion l.fn.context.expander.now)) l.items.items;
  cooked : All (IsItemCooked (origin_of g.E.Expander.expansion l.fn.context)) l.items.items;
}

abbrev pub decreases-loop-alloc : goal.decreases-loop-alloc
decreases-loop-alloc g l = length (ahead l.cursor)
