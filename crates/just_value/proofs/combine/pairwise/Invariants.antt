-- The texts up to a place are paired.
use Rattle.std.proofs.Common.{◌≡◌, map, take}
use Rattle.std.specs.String.{string_bytes}
use Rattle.just_value.specs.Values as spec
use Rattle.just_value.proofs.combine.pairwise.Given as goal

abbrev pub invariant-loop-place : goal.invariant-loop-place
invariant-loop-place l = map string_bytes l.texts.items ≡ spec.pairwise l.separator (map string_bytes (take l.place l.left)) (map string_bytes (take l.place l.right))
