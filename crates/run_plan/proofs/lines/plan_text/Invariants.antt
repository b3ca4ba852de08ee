-- The lines of the entries so far are there.
use Rattle.std.proofs.Common.{◌≡◌, take}
use Rattle.std.specs.String.{string_bytes}
use Rattle.run_plan.specs.Plans.{plan_text}
use Rattle.run_plan.proofs.lines.plan_text.Given as goal

abbrev pub invariant-loop-entry : goal.invariant-loop-entry
invariant-loop-entry l = string_bytes l.plan ≡ plan_text (take l.entry-index l.entries)
