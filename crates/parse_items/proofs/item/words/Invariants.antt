-- The words that were read, and those that are still to be read.
use Rattle.std.proofs.Common.{◌≡◌, ℕ, suc, ◌<◌, false, length}
use Rattle.just_text.specs.Tokens.{word_of}
use Rattle.parse_expressions.specs.Reading.{ahead}
use Rattle.parse_items.specs.Reading.{words_at}
use Rattle.parse_items.proofs.item.words.Given as goal

abbrev pub invariant-loop-cursor : goal.invariant-loop-cursor
invariant-loop-cursor l =
    (n : ℕ) × (length (ahead l.cursor) < n)
    × (words_at word_of l.words.export l.words.eager n (ahead l.cursor) ≡ words_at word_of false false (suc (length (ahead l.fn.cursor))) (ahead l.fn.cursor))

abbrev pub decreases-loop-cursor : goal.decreases-loop-cursor
decreases-loop-cursor l = length (ahead l.cursor)
