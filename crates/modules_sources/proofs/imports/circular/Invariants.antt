-- The places from one on are left, and each so far is less than the next.
use Rattle.std.proofs.Common.{length}
use Rattle.modules_sources.proofs.Circles.{IsRest}
use Rattle.modules_sources.proofs.imports.circular.Given as goal

abbrev pub invariant-loop-rest : goal.invariant-loop-rest
invariant-loop-rest l = IsRest l.places l.rest

abbrev pub decreases-loop-rest : goal.decreases-loop-rest
decreases-loop-rest l = length l.rest
