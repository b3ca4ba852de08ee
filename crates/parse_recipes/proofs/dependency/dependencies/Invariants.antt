use Rattle.std.proofs.Common.{◌≡◌, ℕ, ◌<◌, length}
use Rattle.just_text.specs.Tokens.{word_of}
use Rattle.tree_items.specs.Recipes.{dependency_shape}
use Rattle.parse_expressions.specs.Origins.{origin_of}
use Rattle.parse_expressions.specs.Reading.{ahead}
use Rattle.parse_recipes.specs.Cooked.{AreDependenciesCooked}
use Rattle.parse_recipes.specs.Reading.{while_some, dependency_at, dependencies_at}
use Rattle.parse_recipes.proofs.Turns.{before}
use Rattle.parse_recipes.proofs.dependency.dependencies.Given as goal

abbrev pub invariant-loop-dependencies : goal.invariant-loop-dependencies
invariant-loop-dependencies g l =
    (n : ℕ) × (length (ahead l.cursor) < n)
    × (before dependency_shape l.dependencies.items (while_some word_of (dependency_at word_of (g.E.Expander.expansion l.fn.context.expander.now)) n (ahead l.cursor)) ≡ dependencies_at word_of (g.E.Expander.expansion l.fn.context.expander.now) (ahead l.fn.cursor))
    × AreDependenciesCooked (origin_of g.E.Expander.expansion l.fn.context) l.dependencies.items

abbrev pub decreases-loop-dependencies : goal.decreases-loop-dependencies
decreases-loop-dependencies g l = length (ahead l.cursor)
