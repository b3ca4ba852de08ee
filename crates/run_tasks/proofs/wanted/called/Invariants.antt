-- The recipes of the first calls.
use Rattle.std.specs.Prelude.{◌≡◌, map}
use Rattle.std.proofs.Common.{take}
use Rattle.analyze_calls.specs.declared.call.Call.{Call}
use Rattle.run_tasks.proofs.wanted.called.Given as goal

abbrev pub invariant-loop-call : goal.invariant-loop-call
invariant-loop-call l = l.recipes.items ≡ map (λ (call : Call). call.recipe) (take l.call-index l.call-items)
