-- What the loops have written so far, and what falls from call to call.
use Rattle.std.proofs.Common.{◌≡◌, ℕ, ◌+◌, ◌*◌, max, List, ◌++◌, drop}
use Rattle.std.specs.Fmt.{HasWritten, IsPlainFormatter}
use Rattle.tree_expressions.specs.Printing.{text_of_others, text_of_interpolations}
use Rattle.tree_expressions.specs.Shape.{shapes_of, interpolations_of}
use Rattle.tree_expressions.specs.declared.expression.Expression.{size-Expression}
use Rattle.tree_expressions.proofs.printing.+print.Given as goal

abbrev pub invariant-print_all-loop-other : goal.invariant-print_all-loop-other
invariant-print_all-loop-other g l =
    IsPlainFormatter l.initial.f → (done : List ℕ) × HasWritten g.W.Write.write_str_gives l.initial.f done l.f
    × (done ++ text_of_others (shapes_of (drop l.other-index l.others)) ≡ text_of_others (shapes_of l.others))

abbrev pub invariant-print_interpolations-loop-expression : goal.invariant-print_interpolations-loop-expression
invariant-print_interpolations-loop-expression g l =
    IsPlainFormatter l.initial.f → (done : List ℕ) × HasWritten g.W.Write.write_str_gives l.initial.f done l.f
    × (done ++ text_of_interpolations (interpolations_of (drop l.expression-index l.interpolations)) ≡ text_of_interpolations (interpolations_of l.interpolations))

abbrev pub decreases-print : goal.decreases-print
decreases-print g l = 6 * goal.size-print g l

abbrev pub decreases-print_sides : goal.decreases-print_sides
decreases-print_sides g l = 6 * max (size-Expression l.lhs.now) (size-Expression l.rhs.now) + 1

abbrev pub decreases-print_between : goal.decreases-print_between
decreases-print_between g l = 6 * goal.size-print_between g l + 1

abbrev pub decreases-print_pair : goal.decreases-print_pair
decreases-print_pair g l = 6 * max (size-Expression l.first.now) (size-Expression l.second.now) + 2

abbrev pub decreases-print_choice : goal.decreases-print_choice
decreases-print_choice g l = 6 * max (size-Expression l.condition.now) (max (size-Expression l.then.now) (size-Expression l.other.now)) + 3

abbrev pub decreases-print_row : goal.decreases-print_row
decreases-print_row g l = 6 * goal.size-print_row g l + 3

abbrev pub decreases-print_all : goal.decreases-print_all
decreases-print_all g l = 6 * goal.size-print_all g l + 2

abbrev pub decreases-print_interpolations : goal.decreases-print_interpolations
decreases-print_interpolations g l = 6 * goal.size-print_interpolations g l + 2
