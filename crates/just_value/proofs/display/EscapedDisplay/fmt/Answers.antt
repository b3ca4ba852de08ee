-- A character that needs no escape.
use Rattle.std.proofs.Common.{arith}
use Rattle.just_value.proofs.display.EscapedDisplay.fmt.Goals as goal
use Rattle.just_value.proofs.Escapes.{kept}

pub returns-in_default-clause-writes : goal.returns-in_default-clause-writes
returns-in_default-clause-writes g c = λ plain ok. rw (kept c.args.self.now.0 (omega arith) (omega arith) (omega arith) (omega arith) (omega arith)) (c.write_char.ensures.writes plain ok)
