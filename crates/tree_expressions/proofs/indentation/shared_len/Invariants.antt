-- The bytes so far are the same.
use Rattle.std.proofs.Common.{◌≡◌, ◌+◌, ◌==◌, drop}
use Rattle.std.specs.List.{common_prefix_len}
use Rattle.tree_expressions.proofs.indentation.shared_len.Given as goal

abbrev pub invariant-loop-i : goal.invariant-loop-i
invariant-loop-i l = l.i + common_prefix_len (λ a b. a == b) (drop l.i l.left) (drop l.i l.right) ≡ common_prefix_len (λ a b. a == b) l.left l.right
