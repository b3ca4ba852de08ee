-- The names of the first definitions are there.
use Rattle.std.proofs.Common.{take}
use Rattle.just_modules.proofs.Exports.{AreNoted}
use Rattle.just_modules.proofs.compiler.unexported.Given as goal

abbrev pub invariant-loop-definition : goal.invariant-loop-definition
invariant-loop-definition l = AreNoted (take l.definition-index l.definitions) l.names
