use Rattle.std.proofs.Common.{◌≡◌, ◌++◌, map, take}
use Rattle.std.specs.String.{string_bytes}
use Rattle.just_value.proofs.positional.arguments.Given as goal

-- the first argument, and the copies so far
abbrev pub invariant-loop-word : goal.invariant-loop-word
invariant-loop-word l = l.texts.items ≡ l.initial.texts.items ++ map string_bytes (take l.word-index l.others)
