-- The modules at the places so far that are not private.
use Rattle.std.proofs.Common.{◌≡◌, filter, take}
use Rattle.justfile_analyzer.specs.Offers.{is_public}
use Rattle.justfile_analyzer.proofs.offered.public_modules.Given as goal

abbrev pub invariant-loop-place : goal.invariant-loop-place
invariant-loop-place l = l.modules.items ≡ filter (is_public l.compilation) (take l.place-index l.place-items)
