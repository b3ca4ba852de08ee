-- The fragments so far are written.
use Rattle.std.proofs.Common.{take, map}
use Rattle.std.specs.Fmt.{HasWritten, IsPlainFormatter}
use Rattle.tree_items.specs.Lines.{line_text, piece_of}
use Rattle.tree_items.proofs.line.LineDisplay.fmt.Given as goal

abbrev pub invariant-loop-fragment : goal.invariant-loop-fragment
invariant-loop-fragment g l =
    IsPlainFormatter l.initial.f → HasWritten g.W.Write.write_str_gives l.initial.f (line_text (map piece_of (take l.fragment-index l.fragment-items))) l.f
