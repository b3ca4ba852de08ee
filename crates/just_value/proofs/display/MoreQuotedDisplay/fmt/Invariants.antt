-- The texts so far are written.
use Rattle.std.proofs.Common.{take, map}
use Rattle.std.specs.Fmt.{HasWritten, IsPlainFormatter}
use Rattle.std.specs.String.{string_bytes}
use Rattle.just_value.specs.Values.{more_quoted}
use Rattle.just_value.proofs.display.MoreQuotedDisplay.fmt.Given as goal

abbrev pub invariant-loop-text : goal.invariant-loop-text
invariant-loop-text g l =
    IsPlainFormatter l.initial.f → HasWritten g.W.Write.write_str_gives l.initial.f (more_quoted (map string_bytes (take l.text-index l.text-items))) l.f
