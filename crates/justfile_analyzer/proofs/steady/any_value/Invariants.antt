-- None of the parameters so far has a value of its own.
use Rattle.std.proofs.Common.{◌≡◌, false, take}
use Rattle.std.specs.List.{list_any}
use Rattle.justfile_analyzer.specs.Values.{has_value}
use Rattle.justfile_analyzer.proofs.steady.any_value.Given as goal

abbrev pub invariant-loop-parameter : goal.invariant-loop-parameter
invariant-loop-parameter l = list_any has_value (take l.parameter-index l.parameters) ≡ false
