use Rattle.std.proofs.Common.{map, take}
use Rattle.std.specs.Fmt.{HasWritten, IsPlainFormatter}
use Rattle.just_text.specs.Fields.{ticked_more}
use Rattle.just_resolve.specs.Refusals.{name_text}
use Rattle.just_resolve.proofs.error_text.write_more.Given as goal

abbrev pub invariant-loop-name : goal.invariant-loop-name
invariant-loop-name g l =
    IsPlainFormatter l.initial.f → HasWritten g.W.Write.write_str_gives l.initial.f (ticked_more (map name_text (take l.name-index l.names))) l.f
