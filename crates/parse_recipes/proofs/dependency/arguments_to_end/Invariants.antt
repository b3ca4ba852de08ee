use Rattle.std.proofs.Common.{◌≡◌, ℕ, suc, ◌<◌, length}
use Rattle.just_text.specs.Tokens.{word_of}
use Rattle.just_text.specs.declared.token_kind.TokenKind.TheVariants.{ParenR}
use Rattle.tree_items.specs.Recipes.{argument_shape}
use Rattle.parse_expressions.specs.Origins.{origin_of}
use Rattle.parse_expressions.specs.Reading.{ahead}
use Rattle.parse_recipes.specs.Cooked.{AreArgumentsCooked}
use Rattle.parse_recipes.specs.Reading.{until, argument_at}
use Rattle.parse_recipes.proofs.Turns.{before}
use Rattle.parse_recipes.proofs.dependency.arguments_to_end.Given as goal

abbrev pub invariant-loop-arguments : goal.invariant-loop-arguments
invariant-loop-arguments g l =
    (n : ℕ) × (length (ahead l.cursor) < n)
    × (before argument_shape l.arguments.items (until word_of (argument_at word_of (g.E.Expander.expansion l.fn.context.expander.now)) ParenR n (ahead l.cursor))
    ≡ until word_of (argument_at word_of (g.E.Expander.expansion l.fn.context.expander.now)) ParenR (suc (length (ahead l.fn.cursor))) (ahead l.fn.cursor))
    × AreArgumentsCooked (origin_of g.E.Expander.expansion l.fn.context) l.arguments.items

abbrev pub decreases-loop-arguments : goal.decreases-loop-arguments
decreases-loop-arguments g l = length (ahead l.cursor)
