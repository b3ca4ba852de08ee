-- The words so far stand after those that stood there.
use Rattle.std.proofs.Common.{◌≡◌, ◌++◌, map, take}
use Rattle.std.specs.String.{string_bytes}
use Rattle.justfile_evaluator.proofs.body.push_copies.Given as goal

abbrev pub invariant-loop-word : goal.invariant-loop-word
invariant-loop-word l = map string_bytes l.words.items ≡ map string_bytes l.initial.words.items ++ map string_bytes (take l.word-index l.more)
