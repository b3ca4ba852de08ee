-- The measures of the parser, and what its loops have read so far.
use Rattle.std.proofs.Common.{◌≡◌, ℕ, suc, ◌+◌, ◌*◌, ◌<◌, Ok, length}
use Rattle.just_text.specs.Tokens.{word_of}
use Rattle.parse_expressions.specs.Literals.{AreCooked, AreInterpolationsCooked, IsCooked}
use Rattle.tree_expressions.specs.Shape.{shape_of}
use Rattle.parse_expressions.specs.Origins.{origin_of}
use Rattle.parse_expressions.specs.Reading.{ahead, elements_at, interpolations_at, operand_at, expression_at}
use Rattle.parse_expressions.proofs.Elements.{before}
use Rattle.parse_expressions.proofs.Interpolations.{before_interpolations}
use Rattle.parse_expressions.proofs.cursor.Cursor.+expression.Given as goal

abbrev pub decreases-ranked : goal.decreases-ranked
decreases-ranked g l = 1024 * l.levels

abbrev pub decreases-boxed : goal.decreases-boxed
decreases-boxed g l = 1024 * l.levels + 1

abbrev pub decreases-operand : goal.decreases-operand
decreases-operand g l = 1024 * l.levels + 500

abbrev pub decreases-unary : goal.decreases-unary
decreases-unary g l = 1024 * l.levels + 400

abbrev pub decreases-prefixed : goal.decreases-prefixed
decreases-prefixed g l = 1024 * l.levels + 300

abbrev pub decreases-behind : goal.decreases-behind
decreases-behind g l = 1024 * l.levels + 300

abbrev pub decreases-primary : goal.decreases-primary
decreases-primary g l = 1024 * l.levels + 10

abbrev pub decreases-format : goal.decreases-format
decreases-format g l = 1024 * l.levels + 9

abbrev pub decreases-format_string : goal.decreases-format_string
decreases-format_string g l = 1024 * l.levels + 8

abbrev pub decreases-named : goal.decreases-named
decreases-named g l = 1024 * l.levels + 9

abbrev pub decreases-bracketed : goal.decreases-bracketed
decreases-bracketed g l = 1024 * l.levels + 9

abbrev pub decreases-call : goal.decreases-call
decreases-call g l = 1024 * l.levels + 8

abbrev pub decreases-list : goal.decreases-list
decreases-list g l = 1024 * l.levels + 8

abbrev pub decreases-arguments : goal.decreases-arguments
decreases-arguments g l = 1024 * l.levels + 7

abbrev pub decreases-assertion : goal.decreases-assertion
decreases-assertion g l = 1024 * l.levels + 7

abbrev pub decreases-message : goal.decreases-message
decreases-message g l = 1024 * l.levels + 6

abbrev pub decreases-conditional : goal.decreases-conditional
decreases-conditional g l = 1024 * l.levels + 5

abbrev pub decreases-otherwise : goal.decreases-otherwise
decreases-otherwise g l = 1024 * l.levels + 4

abbrev pub decreases-braces : goal.decreases-braces
decreases-braces g l = 1024 * l.levels + 3

abbrev pub decreases-elements : goal.decreases-elements
decreases-elements g l = 1024 * l.levels + 2

abbrev pub decreases-interpolations : goal.decreases-interpolations
decreases-interpolations g l = 1024 * l.levels + 2

abbrev pub invariant-elements-loop-close : goal.invariant-elements-loop-close
invariant-elements-loop-close g l =
    (n : ℕ) × (length (ahead l.self) < n)
    × (before l.elements.items (elements_at word_of (g.E.Expander.expansion l.context.expander.now) (expression_at word_of (g.E.Expander.expansion l.context.expander.now) l.levels) n l.close (ahead l.self)) ≡ elements_at word_of (g.E.Expander.expansion l.context.expander.now) (expression_at word_of (g.E.Expander.expansion l.context.expander.now) l.levels) (suc (length (ahead l.fn.self))) l.close (ahead l.fn.self))
    × AreCooked (origin_of g.E.Expander.expansion l.context) l.elements.items

abbrev pub decreases-elements-loop-close : goal.decreases-elements-loop-close
decreases-elements-loop-close g l = length (ahead l.self)

abbrev pub invariant-interpolations-loop-interpolations : goal.invariant-interpolations-loop-interpolations
invariant-interpolations-loop-interpolations g l =
    (n : ℕ) × (length (ahead l.self) < n)
    × (before_interpolations l.interpolations.items (interpolations_at word_of (g.E.Expander.expansion l.context.expander.now) (expression_at word_of (g.E.Expander.expansion l.context.expander.now) l.levels) n l.kind (ahead l.self)) ≡ interpolations_at word_of (g.E.Expander.expansion l.context.expander.now) (expression_at word_of (g.E.Expander.expansion l.context.expander.now) l.levels) (suc (length (ahead l.fn.self))) l.kind (ahead l.fn.self))
    × AreInterpolationsCooked (origin_of g.E.Expander.expansion l.context) l.kind l.interpolations.items

abbrev pub decreases-interpolations-loop-interpolations : goal.decreases-interpolations-loop-interpolations
decreases-interpolations-loop-interpolations g l = length (ahead l.self)

abbrev pub invariant-operand-loop-below : goal.invariant-operand-loop-below
invariant-operand-loop-below g l =
    (operand_at word_of (g.E.Expander.expansion l.context.expander.now) (expression_at word_of (g.E.Expander.expansion l.context.expander.now) l.levels) l.below (ahead l.fn.self) ≡ Ok (shape_of l.lhs, ahead l.self))
    × IsCooked (origin_of g.E.Expander.expansion l.context) l.lhs
