use Rattle.std.proofs.Common.{◌≡◌, ℕ, suc, ◌<◌, length}
use Rattle.just_text.specs.Tokens.{word_of}
use Rattle.parse_expressions.specs.Reading.{ahead}
use Rattle.parse_recipes.specs.Reading.{names_at}
use Rattle.parse_recipes.proofs.Paths.{name_text, others_at}
use Rattle.parse_recipes.proofs.Turns.{before}
use Rattle.parse_recipes.proofs.path.namepath.Given as goal

abbrev pub invariant-loop-cursor : goal.invariant-loop-cursor
invariant-loop-cursor l = (n : ℕ) × (length (ahead l.cursor) < n) × (before name_text l.path (others_at n (ahead l.cursor)) ≡ names_at word_of (suc (length (ahead l.fn.cursor))) (ahead l.fn.cursor))

abbrev pub decreases-loop-cursor : goal.decreases-loop-cursor
decreases-loop-cursor l = length (ahead l.cursor)
