-- The settings before the place are not of lists.
use Rattle.std.proofs.Common.{◌≡◌, drop}
use Rattle.just_resolve.specs.Settling.{lists_at}
use Rattle.just_resolve.specs.Table.{first_of}
use Rattle.just_resolve.proofs.settled.sets_lists.Given as goal

abbrev pub invariant-loop-place : goal.invariant-loop-place
invariant-loop-place l = first_of (lists_at l.compilation) (drop l.place-index l.sets) ≡ first_of (lists_at l.compilation) l.sets
