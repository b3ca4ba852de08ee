-- The elements so far have the affix.
use Rattle.std.proofs.Common.{◌≡◌, map, take}
use Rattle.std.specs.String.{string_bytes}
use Rattle.evaluate_functions.specs.Values.{affixed}
use Rattle.evaluate_functions.proofs.values.with_affix.Given as goal

abbrev pub invariant-loop-element : goal.invariant-loop-element
invariant-loop-element l = l.changed ≡ map (affixed l.fn.affix) (map string_bytes (take l.element-index l.element-items))
