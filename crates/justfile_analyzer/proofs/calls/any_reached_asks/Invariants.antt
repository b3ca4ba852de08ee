-- No place so far is marked and asks.
use Rattle.std.proofs.Common.{◌≡◌, ℕ, ◌<◌, true, Some}
use Rattle.std.specs.Prelude.{slice_get}
use Rattle.resolve_order.specs.Flooded.{IsMarked}
use Rattle.justfile_analyzer.proofs.calls.any_reached_asks.Given as goal

abbrev pub invariant-loop-place : goal.invariant-loop-place
invariant-loop-place l = (place : ℕ) → place < l.place → slice_get l.asks place ≡ Some true → IsMarked l.marks place → ⊥
