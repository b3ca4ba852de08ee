-- The modules before the place have their reads.
use Rattle.just_resolve.specs.Variables.{AreEach, IsReadsAt}
use Rattle.just_resolve.proofs.module_variables.all_reads.Given as goal

abbrev pub invariant-loop-one : goal.invariant-loop-one
invariant-loop-one l = AreEach l.one-index (IsReadsAt l.overrides l.lists) l.all.items
