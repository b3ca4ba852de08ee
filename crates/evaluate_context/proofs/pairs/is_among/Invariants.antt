-- No name so far is the same.
use Rattle.std.proofs.Common.{◌≡◌, drop}
use Rattle.evaluate_context.specs.Environment as spec
use Rattle.evaluate_context.proofs.pairs.is_among.Given as goal

abbrev pub invariant-loop-other : goal.invariant-loop-other
invariant-loop-other l = spec.is_among (spec.texts (drop l.other-index l.names)) l.name ≡ spec.is_among (spec.texts l.names) l.name
