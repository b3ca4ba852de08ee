-- The characters so far are written, with four spaces for each tab.
use Rattle.std.proofs.Common.{encode_utf8_all}
use Rattle.std.specs.Fmt.{HasWritten, IsPlainFormatter}
use Rattle.just_lexer.specs.Columns.{spaced}
use Rattle.just_lexer.proofs.width.SpacedDisplay.fmt.Given as goal

abbrev pub invariant-loop-character : goal.invariant-loop-character
invariant-loop-character g l =
    IsPlainFormatter l.initial.f → HasWritten g.W.Write.write_str_gives l.initial.f (encode_utf8_all (spaced l.yielded)) l.f
