-- The text stands before each of the others so far.
use Rattle.std.proofs.Common.{◌≡◌, map, take}
use Rattle.std.specs.String.{string_bytes}
use Rattle.just_value.specs.Values as spec
use Rattle.just_value.proofs.combine.before_each.Given as goal

abbrev pub invariant-loop-other : goal.invariant-loop-other
invariant-loop-other l = map string_bytes l.texts.items ≡ spec.before_each l.separator l.text (map string_bytes (take l.other-index l.others))
