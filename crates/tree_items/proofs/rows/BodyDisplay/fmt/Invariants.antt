-- The lines so far are written.
use Rattle.std.proofs.Common.{take}
use Rattle.std.specs.Fmt.{HasWritten, IsPlainFormatter}
use Rattle.tree_items.specs.Recipes.{body_text, body_shape}
use Rattle.tree_items.proofs.rows.BodyDisplay.fmt.Given as goal

abbrev pub invariant-loop-line : goal.invariant-loop-line
invariant-loop-line g l =
    IsPlainFormatter l.initial.f → HasWritten g.W.Write.write_str_gives l.initial.f (body_text l.indentation (body_shape (take l.line-index l.line-items))) l.f
