-- The texts so far are in the value.
use Rattle.std.proofs.Common.{◌≡◌, take}
use Rattle.run_plan.proofs.lines.value_of.Given as goal

abbrev pub invariant-loop-text : goal.invariant-loop-text
invariant-loop-text l = l.value ≡ take l.text-index l.texts
