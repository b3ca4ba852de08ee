-- The recipes at the places so far that are not private.
use Rattle.std.proofs.Common.{◌≡◌, filter_map, map, take}
use Rattle.justfile_analyzer.specs.Offers.{lent, offered_at}
use Rattle.justfile_analyzer.proofs.offered.recipes_at.Given as goal

abbrev pub invariant-loop-place : goal.invariant-loop-place
invariant-loop-place l = map lent l.recipes.items ≡ filter_map (offered_at l.compilation) (take l.place-index l.places)
