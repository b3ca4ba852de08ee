-- The flags are those of the variables before the place.
use Rattle.std.proofs.Common.{◌≡◌, take}
use Rattle.resolve_analysis.specs.Lists.{variables_in}
use Rattle.resolve_analysis.specs.Reads.{overridden_by}
use Rattle.resolve_analysis.proofs.module_reads.overridden.Given as goal

abbrev pub invariant-loop-lent : goal.invariant-loop-lent
invariant-loop-lent l = l.flags.items ≡ overridden_by l.overrides (variables_in (take l.lent-index l.lists.assignments.items))
