-- The parameters that were read, and those that are still to be read.
use Rattle.std.proofs.Common.{◌≡◌, ℕ, suc, ◌+◌, ◌<◌, ◌≤◌, List, [], length}
use Rattle.just_text.specs.Tokens.{word_of}
use Rattle.parse_expressions.specs.Reading.{ahead}
use Rattle.parse_recipes.specs.Seen.{HasNames}
use Rattle.parse_items.specs.Numbered.{AreNext, parameter_numbers}
use Rattle.parse_items.specs.Reading.{names_at}
use Rattle.parse_items.proofs.Parameters.{behind}
use Rattle.parse_items.proofs.item.parameters.Given as goal

abbrev pub invariant-loop-alloc : goal.invariant-loop-alloc
invariant-loop-alloc l = record {
  turns : ℕ;
  taken : List (List ℕ);
  fuel : length (ahead l.cursor) < turns;
  names : HasNames l.names taken;
  so_far : behind l.parameters.items (names_at word_of turns taken (ahead l.cursor)) ≡ names_at word_of (suc (length (ahead l.fn.cursor))) [] (ahead l.fn.cursor);
  numbers : AreNext l.fn.numerator l.numerator (parameter_numbers l.parameters.items);
  room : length (parameter_numbers l.parameters.items) + length (ahead l.cursor) ≤ length (ahead l.fn.cursor);
}

abbrev pub decreases-loop-alloc : goal.decreases-loop-alloc
decreases-loop-alloc l = length (ahead l.cursor)
