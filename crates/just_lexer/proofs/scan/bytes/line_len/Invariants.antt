-- What is left to count from here, with what was counted, is the whole.
use Rattle.std.proofs.Common.{◌≡◌, ◌+◌, drop}
use Rattle.just_lexer.specs.Classes.{until, at_line_end}
use Rattle.just_lexer.proofs.scan.bytes.line_len.Given as goal

abbrev pub invariant-loop-i : goal.invariant-loop-i
invariant-loop-i l = l.i + until at_line_end (drop l.i l.text) ≡ until at_line_end l.text
