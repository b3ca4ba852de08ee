-- The elements so far are quoted.
use Rattle.std.proofs.Common.{◌≡◌, map, take}
use Rattle.std.specs.String.{string_bytes}
use Rattle.evaluate_functions.specs.Values as spec
use Rattle.evaluate_functions.proofs.values.quoted.Given as goal

abbrev pub invariant-loop-element : goal.invariant-loop-element
invariant-loop-element l = l.quoted ≡ map spec.quoted (map string_bytes (take l.element-index l.element-items))
