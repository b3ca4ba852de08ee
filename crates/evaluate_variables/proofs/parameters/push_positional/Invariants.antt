-- The elements so far stand after the words that stood there.
use Rattle.std.proofs.Common.{◌≡◌, ◌++◌, map, take}
use Rattle.std.specs.String.{string_bytes}
use Rattle.evaluate_variables.proofs.parameters.push_positional.Given as goal

abbrev pub invariant-loop-element : goal.invariant-loop-element
invariant-loop-element l = map string_bytes l.positional.items ≡ map string_bytes l.initial.positional.items ++ map string_bytes (take l.element-index l.element-items)
