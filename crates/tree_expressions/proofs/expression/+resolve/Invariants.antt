-- What the loops have numbered so far.
use Rattle.std.proofs.Common.{◌≡◌, ◌+◌, ◌*◌, length}
use Rattle.tree_expressions.proofs.NumberedRows.{EachIsNumbered, EachInterpolationIsNumbered}
use Rattle.tree_expressions.proofs.expression.+resolve.Given as goal

abbrev pub invariant-numbering::resolve_row-loop-index : goal.invariant-numbering::resolve_row-loop-index
invariant-numbering::resolve_row-loop-index g l = record {
  unvisited : goal.unvisited-numbering::resolve_row-loop-index g l;
  same : length l.expressions.items ≡ length l.initial.expressions.items;
  each : EachIsNumbered (g.N.VariableNumbers.number l.numbers) l.initial.expressions.items l.expressions.items l.index;
}

abbrev pub invariant-numbering::resolve_interpolations-loop-index : goal.invariant-numbering::resolve_interpolations-loop-index
invariant-numbering::resolve_interpolations-loop-index g l = record {
  unvisited : goal.unvisited-numbering::resolve_interpolations-loop-index g l;
  same : length l.interpolations.items ≡ length l.initial.interpolations.items;
  each : EachInterpolationIsNumbered (g.N.VariableNumbers.number l.numbers) l.initial.interpolations.items l.interpolations.items l.index;
}

abbrev pub decreases-Expression::resolve_variables : goal.decreases-Expression::resolve_variables
decreases-Expression::resolve_variables g l = 4 * goal.size-Expression::resolve_variables g l + 1

abbrev pub decreases-Expression::resolve : goal.decreases-Expression::resolve
decreases-Expression::resolve g l = 4 * goal.size-Expression::resolve g l

abbrev pub decreases-numbering::resolve_inner : goal.decreases-numbering::resolve_inner
decreases-numbering::resolve_inner g l = 4 * goal.size-numbering::resolve_inner g l + 2

abbrev pub decreases-numbering::resolve_row : goal.decreases-numbering::resolve_row
decreases-numbering::resolve_row g l = 4 * goal.size-numbering::resolve_row g l + 2

abbrev pub decreases-numbering::resolve_interpolations : goal.decreases-numbering::resolve_interpolations
decreases-numbering::resolve_interpolations g l = 4 * goal.size-numbering::resolve_interpolations g l + 2

abbrev pub decreases-numbering::resolve_if_there : goal.decreases-numbering::resolve_if_there
decreases-numbering::resolve_if_there g l = 4 * goal.size-numbering::resolve_if_there g l + 3
