use Rattle.std.proofs.Common.{◌≡◌, ◌++◌, map, drop}
use Rattle.std.specs.String.{string_bytes}
use Rattle.just_value.specs.Words.{leading}
use Rattle.just_value.proofs.positional.leading_overrides.Given as goal

-- the overrides so far, and then those that the other words begin with
abbrev pub invariant-loop-word : goal.invariant-loop-word
invariant-loop-word l = leading (map string_bytes l.values) ≡ l.overrides.items ++ leading (map string_bytes (drop l.word-index l.values))
