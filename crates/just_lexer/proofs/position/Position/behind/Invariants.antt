-- The position so far is after the bytes so far.
use Rattle.std.proofs.Common.{◌≡◌, take}
use Rattle.std.specs.List.{fold}
use Rattle.just_lexer.specs.Modes.{advance}
use Rattle.just_lexer.proofs.Steps.{WithinSteps}
use Rattle.just_lexer.proofs.position.Position.behind.Given as goal

abbrev pub invariant-loop-byte : goal.invariant-loop-byte
invariant-loop-byte l = (l.position ≡ fold advance l.fn.self (take l.byte-index l.bytes)) × WithinSteps l.fn.self l.position l.byte-index
