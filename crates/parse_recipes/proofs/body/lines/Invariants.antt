use Rattle.std.proofs.Common.{◌≡◌, ℕ, ◌<◌, length}
use Rattle.just_text.specs.Tokens.{word_of}
use Rattle.just_text.specs.declared.token_kind.TokenKind.TheVariants.{Dedent}
use Rattle.tree_items.specs.Lines.{pieces_of}
use Rattle.parse_expressions.specs.Origins.{origin_of}
use Rattle.parse_expressions.specs.Reading.{ahead}
use Rattle.parse_recipes.specs.Cooked.{IsBodyCooked}
use Rattle.parse_recipes.specs.Reading.{until, line_at, lines_at}
use Rattle.parse_recipes.proofs.Turns.{before}
use Rattle.parse_recipes.proofs.body.lines.Given as goal

abbrev pub invariant-loop-alloc : goal.invariant-loop-alloc
invariant-loop-alloc g l =
    (n : ℕ) × (length (ahead l.cursor) < n)
    × (before pieces_of l.lines.items (until word_of (line_at word_of (g.E.Expander.expansion l.fn.context.expander.now)) Dedent n (ahead l.cursor)) ≡ lines_at word_of (g.E.Expander.expansion l.fn.context.expander.now) (ahead l.fn.cursor))
    × IsBodyCooked (origin_of g.E.Expander.expansion l.fn.context) l.lines.items

abbrev pub decreases-loop-alloc : goal.decreases-loop-alloc
decreases-loop-alloc g l = length (ahead l.cursor)
