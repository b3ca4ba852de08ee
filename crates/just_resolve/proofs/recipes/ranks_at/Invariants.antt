-- With the ranks to come, the ranks are those of all places.
use Rattle.std.proofs.Common.{◌≡◌, ◌++◌, drop}
use Rattle.just_resolve.specs.Recipes.{ranks_at}
use Rattle.just_resolve.proofs.recipes.ranks_at.Given as goal

abbrev pub invariant-loop-place : goal.invariant-loop-place
invariant-loop-place l = l.found.items ++ ranks_at l.ranks (drop l.place-index l.places) ≡ ranks_at l.ranks l.places
