-- The names stand for the constants before the place.
use Rattle.std.proofs.Common.{take}
use Rattle.just_value.specs.Constants.{constant_rows}
use Rattle.resolve_references.specs.Seen.{StandsFor}
use Rattle.resolve_analysis.specs.Bound.{numbered_from}
use Rattle.resolve_analysis.proofs.numbers.constant_names.Given as goal

abbrev pub invariant-loop-index : goal.invariant-loop-index
invariant-loop-index l = StandsFor l.names (numbered_from 0 (take l.index constant_rows))
