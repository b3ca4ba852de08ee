-- What is left to count from here, with what was counted, is the whole.
use Rattle.std.proofs.Common.{◌≡◌, ◌+◌, drop}
use Rattle.just_lexer.specs.Classes.{until_over}
use Rattle.just_lexer.specs.Strings.{ends_part, part_takes}
use Rattle.just_lexer.proofs.scan.strings.part_len.Given as goal

abbrev pub invariant-loop-i : goal.invariant-loop-i
invariant-loop-i l = l.i + until_over (ends_part l.is_format l.quotes) (part_takes l.is_format l.quotes) l.skip (drop l.i l.text) ≡ until_over (ends_part l.is_format l.quotes) (part_takes l.is_format l.quotes) 0 l.text
