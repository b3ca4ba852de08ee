-- The justfiles among the files so far stand at their folders.
use Rattle.std.proofs.Common.{map}
use Rattle.std.specs.String.{string_bytes}
use Rattle.modules_files.specs.Found.{AreGrouped}
use Rattle.modules_files.proofs.folders.Folders.new.Given as goal

abbrev pub invariant-loop-key : goal.invariant-loop-key
invariant-loop-key l = AreGrouped (map (λ entry. string_bytes entry.0.now) l.yielded) l.folders.justfiles
