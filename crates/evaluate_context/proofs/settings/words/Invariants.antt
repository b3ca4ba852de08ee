-- The first word and the others so far.
use Rattle.std.proofs.Common.{◌≡◌, ◌∷◌, map, take}
use Rattle.std.specs.String.{string_bytes}
use Rattle.evaluate_context.proofs.settings.words.Given as goal

abbrev pub invariant-loop-other : goal.invariant-loop-other
invariant-loop-other l = l.words ≡ l.fn.first ∷ map string_bytes (take l.other-index l.others)
