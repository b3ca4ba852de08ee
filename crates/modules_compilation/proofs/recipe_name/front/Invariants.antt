-- The front so far has the bytes before the place.
use Rattle.std.proofs.Common.{◌≡◌, ◌*◌, ◌^◌, ◌<◌, take}
use Rattle.std.specs.Prelude.{fold}
use Rattle.modules_compilation.specs.Fronts.{bytes_of, with_byte}
use Rattle.modules_compilation.proofs.recipe_name.front.Given as goal

abbrev pub invariant-loop-place : goal.invariant-loop-place
invariant-loop-place l = (l.front ≡ fold with_byte 0 (take l.place (bytes_of 8 l.text))) × (l.front < 2 ^ (8 * l.place))
