-- With the names to come, the names are those of all places.
use Rattle.std.proofs.Common.{◌≡◌, ◌++◌, drop}
use Rattle.just_resolve.specs.Cycles.{recipe_names}
use Rattle.just_resolve.proofs.cycles.recipe_names.Given as goal

abbrev pub invariant-loop-place : goal.invariant-loop-place
invariant-loop-place l = l.names ++ recipe_names l.nodes (drop l.place-index l.places) ≡ recipe_names l.nodes l.places
