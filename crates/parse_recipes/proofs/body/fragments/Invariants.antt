use Rattle.std.proofs.Common.{◌≡◌, ℕ, ◌<◌, length}
use Rattle.just_text.specs.Tokens.{word_of}
use Rattle.tree_items.specs.Lines.{piece_of}
use Rattle.parse_expressions.specs.Origins.{origin_of}
use Rattle.parse_expressions.specs.Reading.{ahead}
use Rattle.parse_recipes.specs.Cooked.{AreFragmentsCooked}
use Rattle.parse_recipes.specs.Reading.{while_some, piece_at, pieces_at}
use Rattle.parse_recipes.proofs.Turns.{before}
use Rattle.parse_recipes.proofs.body.fragments.Given as goal

abbrev pub invariant-loop-fragments : goal.invariant-loop-fragments
invariant-loop-fragments g l =
    (n : ℕ) × (length (ahead l.cursor) < n)
    × (before piece_of l.fragments.items (while_some word_of (piece_at word_of (g.E.Expander.expansion l.fn.context.expander.now)) n (ahead l.cursor)) ≡ pieces_at word_of (g.E.Expander.expansion l.fn.context.expander.now) (ahead l.fn.cursor))
    × AreFragmentsCooked (origin_of g.E.Expander.expansion l.fn.context) l.fragments.items

abbrev pub decreases-loop-fragments : goal.decreases-loop-fragments
decreases-loop-fragments g l = length (ahead l.cursor)
