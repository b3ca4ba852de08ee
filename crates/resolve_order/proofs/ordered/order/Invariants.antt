use Rattle.std.proofs.Common.{◌≡◌, []}
use Rattle.resolve_order.specs.Needs.{rows}
use Rattle.resolve_order.specs.Search.{Searches, AreLookedAt, stack_of}
use Rattle.resolve_order.proofs.ordered.order.Given as goal

-- the things so far are in the order
abbrev pub invariant-loop-place : goal.invariant-loop-place
invariant-loop-place l = record {
  empty : stack_of l.search ≡ [];
  search : Searches (rows l.needs) l.search;
  looked : AreLookedAt l.search.marks.items l.place;
}
