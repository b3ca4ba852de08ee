-- The text stands after each of the others so far.
use Rattle.std.proofs.Common.{◌≡◌, map, take}
use Rattle.std.specs.String.{string_bytes}
use Rattle.just_value.specs.Values as spec
use Rattle.just_value.proofs.combine.behind_each.Given as goal

abbrev pub invariant-loop-other : goal.invariant-loop-other
invariant-loop-other l = map string_bytes l.texts.items ≡ spec.behind_each l.separator (map string_bytes (take l.other-index l.others)) l.text
