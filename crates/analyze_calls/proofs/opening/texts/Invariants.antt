-- With those that are left after them the texts are those of the value.
use Rattle.std.proofs.Common.{◌≡◌, ◌++◌, map}
use Rattle.std.specs.Slice.Iter.{iter_rest}
use Rattle.std.specs.String.{string_bytes}
use Rattle.analyze_calls.proofs.opening.texts.Given as goal

abbrev pub invariant-loop-element : goal.invariant-loop-element
invariant-loop-element l = l.texts ++ map string_bytes (iter_rest l.element-iterator) ≡ l.value
