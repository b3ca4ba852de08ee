use Rattle.std.proofs.Common.{◌<◌}
use Rattle.resolve_order.specs.Needs.{rows as rows_of}
use Rattle.resolve_order.specs.Cycles.{ReachNext}
use Rattle.resolve_order.proofs.read_cycles.each_reaches_next.Given as goal

-- the first places, each but the first, are reached from those before them
abbrev pub invariant-loop-at : goal.invariant-loop-at
invariant-loop-at l = record {
  positive : 0 < l.at;
  next : ReachNext (rows_of l.graph) l.stops l.places l.at;
}
