-- What is left is on where all is.
use Rattle.std.proofs.Common.{◌≡◌, drop}
use Rattle.just_modules.specs.Settings.{is_on}
use Rattle.just_modules.proofs.truths.is_on.Given as goal

abbrev pub invariant-loop-file : goal.invariant-loop-file
invariant-loop-file l = is_on l.os l.files l.name ≡ is_on l.os (drop l.file-index l.files) l.name
