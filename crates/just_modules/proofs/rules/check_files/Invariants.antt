-- Nothing is wrong with the files before.
use Rattle.just_modules.proofs.Items.{AreFilesClearBelow}
use Rattle.just_modules.proofs.rules.check_files.Given as goal

abbrev pub invariant-loop-file : goal.invariant-loop-file
invariant-loop-file l = AreFilesClearBelow l.truths l.os l.files l.file-index
