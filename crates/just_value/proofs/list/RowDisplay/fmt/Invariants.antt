-- The items so far are written, each with a comma after it.
use Rattle.std.proofs.Common.{take, map}
use Rattle.std.specs.Fmt.{HasWritten, IsPlainFormatter}
use Rattle.std.specs.List.{flat_map}
use Rattle.just_value.specs.Lists.{enclosed}
use Rattle.just_value.proofs.Rows.{with_comma}
use Rattle.just_value.proofs.list.RowDisplay.fmt.Given as goal

abbrev pub invariant-loop-item : goal.invariant-loop-item
invariant-loop-item g l =
    IsPlainFormatter l.initial.f → HasWritten g.W.Write.write_str_gives l.initial.f (flat_map with_comma (map (λ item. enclosed l.mark (g.T.Listed.text item)) (take l.item-index l.others))) l.f
