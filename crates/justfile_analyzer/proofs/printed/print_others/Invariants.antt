-- The items so far are written.
use Rattle.std.proofs.Common.{take}
use Rattle.std.specs.Fmt.{HasWritten, IsPlainFormatter}
use Rattle.justfile_analyzer.specs.Printed.{others_text}
use Rattle.justfile_analyzer.proofs.printed.print_others.Given as goal

abbrev pub invariant-loop-place : goal.invariant-loop-place
invariant-loop-place g l =
    IsPlainFormatter l.initial.f → HasWritten g.W.Write.write_str_gives l.initial.f (others_text l.compilation (take l.place-index l.places)) l.f
