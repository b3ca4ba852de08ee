-- The texts so far are copied.
use Rattle.std.proofs.Common.{◌≡◌, take}
use Rattle.modules_files.specs.Found.{borrowed}
use Rattle.modules_files.proofs.chosen.copied.Given as goal

abbrev pub invariant-loop-key : goal.invariant-loop-key
invariant-loop-key l = l.texts.items ≡ borrowed (take l.key-index l.keys)
