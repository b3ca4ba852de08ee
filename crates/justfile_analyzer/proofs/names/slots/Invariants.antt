-- The parameters so far.
use Rattle.std.proofs.Common.{◌≡◌, map, take}
use Rattle.analyze_words.specs.Worded.{slot_of}
use Rattle.justfile_analyzer.specs.MenusOf.{slot_row}
use Rattle.justfile_analyzer.proofs.names.slots.Given as goal

abbrev pub invariant-loop-parameter : goal.invariant-loop-parameter
invariant-loop-parameter l = map slot_of l.slots.items ≡ map slot_row (take l.parameter-index l.parameters)
