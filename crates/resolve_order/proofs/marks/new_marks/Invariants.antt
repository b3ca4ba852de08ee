use Rattle.resolve_order.specs.Marked.{AreNew}
use Rattle.resolve_order.proofs.marks.new_marks.Given as goal

-- so many are new
abbrev pub invariant-loop : goal.invariant-loop
invariant-loop l = AreNew l.counter l.marks.items
