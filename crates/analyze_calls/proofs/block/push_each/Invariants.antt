-- There is a call for each of the elements so far.
use Rattle.std.proofs.Common.{◌≡◌, ◌++◌, ◌∷◌, [], map, take}
use Rattle.std.specs.String.{string_bytes}
use Rattle.analyze_calls.specs.Blocks.{call_with}
use Rattle.analyze_calls.specs.Calls.{rows}
use Rattle.analyze_calls.proofs.block.push_each.Given as goal

abbrev pub invariant-loop-element : goal.invariant-loop-element
invariant-loop-element l = rows l.calls.items ≡ rows l.initial.calls.items ++ map (λ element. call_with l.callee.place l.callee.parameters.now (l.before ++ (element ∷ []) ∷ l.behind)) (map string_bytes (take l.element-index l.elements))
