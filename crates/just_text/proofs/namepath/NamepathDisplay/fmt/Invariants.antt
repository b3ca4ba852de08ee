-- The names after the first one are written one after the other.
use Rattle.std.proofs.Common.{take}
use Rattle.std.specs.Fmt.{HasWritten, IsPlainFormatter}
use Rattle.just_text.specs.Names.{more_names}
use Rattle.just_text.proofs.namepath.NamepathDisplay.fmt.Given as goal

abbrev pub invariant-loop-name : goal.invariant-loop-name
invariant-loop-name g l =
    IsPlainFormatter l.initial.f → HasWritten g.W.Write.write_str_gives l.initial.f (more_names (take l.name-index l.others)) l.f
