use Rattle.resolve_order.specs.Contracted.{AreRepresentatives}
use Rattle.resolve_order.proofs.variable_places.representatives.Given as goal

-- those of the first places
abbrev pub invariant-loop-place : goal.invariant-loop-place
invariant-loop-place l = AreRepresentatives l.variables l.many l.place l.representatives.items
