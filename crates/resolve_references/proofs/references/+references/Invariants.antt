-- What the loops have found so far, and what falls from call to call.
use Rattle.std.proofs.Common.{◌≡◌, ◌+◌, ◌*◌, max, ◌++◌, take}
use Rattle.std.specs.List.{flat_map}
use Rattle.tree_expressions.specs.declared.expression.Expression.{size-Expression}
use Rattle.resolve_references.specs.References.{references_of, references_in_interpolation}
use Rattle.resolve_references.proofs.references.+references.Given as goal

abbrev pub invariant-push_row-loop-expression : goal.invariant-push_row-loop-expression
invariant-push_row-loop-expression l =
    l.found.items ≡ l.initial.found.items ++ flat_map references_of (take l.expression-index l.expressions)

abbrev pub invariant-push_interpolations-loop-expression : goal.invariant-push_interpolations-loop-expression
invariant-push_interpolations-loop-expression l =
    l.found.items ≡ l.initial.found.items ++ flat_map references_in_interpolation (take l.expression-index l.interpolations)

abbrev pub decreases-push : goal.decreases-push
decreases-push l = 4 * goal.size-push l

abbrev pub decreases-push_both : goal.decreases-push_both
decreases-push_both l = 4 * max (size-Expression l.lhs.now) (size-Expression l.rhs.now) + 1

abbrev pub decreases-push_if_there : goal.decreases-push_if_there
decreases-push_if_there l = 4 * goal.size-push_if_there l + 1

abbrev pub decreases-push_call : goal.decreases-push_call
decreases-push_call l = 4 * goal.size-push_call l + 2

abbrev pub decreases-push_row : goal.decreases-push_row
decreases-push_row l = 4 * goal.size-push_row l + 1

abbrev pub decreases-push_interpolations : goal.decreases-push_interpolations
decreases-push_interpolations l = 4 * goal.size-push_interpolations l + 1
