-- What is left to count from here, with what was counted, is the whole.
use Rattle.std.proofs.Common.{◌≡◌, ◌+◌, drop}
use Rattle.just_lexer.specs.Classes.{until_over, ends_text, brace_takes}
use Rattle.just_lexer.proofs.scan.bytes.text_len.Given as goal

abbrev pub invariant-loop-i : goal.invariant-loop-i
invariant-loop-i l = l.i + until_over ends_text brace_takes l.skip (drop l.i l.text) ≡ until_over ends_text brace_takes 0 l.text
