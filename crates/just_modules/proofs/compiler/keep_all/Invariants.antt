-- The lists of the first modules are filled.
use Rattle.just_modules.proofs.Keeping.{AreFilledBelow}
use Rattle.just_modules.proofs.compiler.keep_all.Given as goal

abbrev pub invariant-loop-place : goal.invariant-loop-place
invariant-loop-place l = AreFilledBelow l.config.os l.config.unstable l.fn.compilation l.compilation l.place
