-- What stands again among all stands again among those that are left.
use Rattle.std.proofs.Common.{◌≡◌, drop}
use Rattle.parse_attributes.specs.Seen.{read_shapes}
use Rattle.parse_attributed_items.specs.Fitting.{known, repeated}
use Rattle.parse_attributed_items.proofs.fit.repeated.Given as goal

abbrev pub invariant-loop-i : goal.invariant-loop-i
invariant-loop-i l = repeated (known (read_shapes (drop l.i l.reads))) ≡ repeated (known (read_shapes l.fn.reads))
