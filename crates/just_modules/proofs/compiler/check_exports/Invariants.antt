-- The first to be refused is none of those before.
use Rattle.std.proofs.Common.{◌≡◌, drop}
use Rattle.std.specs.Prelude.{find}
use Rattle.just_modules.specs.Exports.{is_refused}
use Rattle.just_modules.proofs.compiler.check_exports.Given as goal

abbrev pub invariant-loop-definition : goal.invariant-loop-definition
invariant-loop-definition l = find (is_refused l.files l.definitions) l.definitions ≡ find (is_refused l.files l.definitions) (drop l.definition-index l.definitions)
