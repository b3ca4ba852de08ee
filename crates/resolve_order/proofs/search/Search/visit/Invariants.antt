use Rattle.std.proofs.Common.{◌+◌}
use Rattle.resolve_order.specs.Needs.{rows}
use Rattle.resolve_order.specs.Search.{Searches, AreLookedAt, stack_of, work_left}
use Rattle.resolve_order.proofs.search.Search.visit.Given as goal

-- the thing at the place isn't new any more
abbrev pub invariant-loop-frame : goal.invariant-loop-frame
invariant-loop-frame l = record {
  search : Searches (rows l.needs) l.self;
  looked : AreLookedAt l.self.marks.items (l.place + 1);
}

abbrev pub decreases-loop-frame : goal.decreases-loop-frame
decreases-loop-frame l = work_left (rows l.needs) l.self.marks.items (stack_of l.self)
