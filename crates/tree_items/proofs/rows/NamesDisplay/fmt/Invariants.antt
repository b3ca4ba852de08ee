-- The names so far are written.
use Rattle.std.proofs.Common.{take}
use Rattle.std.specs.Fmt.{HasWritten, IsPlainFormatter}
use Rattle.tree_items.specs.Items.{more_names, names_of}
use Rattle.tree_items.proofs.rows.NamesDisplay.fmt.Given as goal

abbrev pub invariant-loop-parameter : goal.invariant-loop-parameter
invariant-loop-parameter g l =
    IsPlainFormatter l.initial.f → HasWritten g.W.Write.write_str_gives l.initial.f (more_names (names_of (take l.parameter-index l.others))) l.f
