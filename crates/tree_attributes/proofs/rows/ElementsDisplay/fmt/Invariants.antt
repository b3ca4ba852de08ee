-- The expressions so far are written.
use Rattle.std.proofs.Common.{take, map}
use Rattle.std.specs.Fmt.{HasWritten, IsPlainFormatter}
use Rattle.tree_expressions.specs.Shape.{shape_of}
use Rattle.tree_attributes.specs.Settings.{elements_text}
use Rattle.tree_attributes.proofs.rows.ElementsDisplay.fmt.Given as goal

abbrev pub invariant-loop-expression : goal.invariant-loop-expression
invariant-loop-expression g l =
    IsPlainFormatter l.initial.f → HasWritten g.W.Write.write_str_gives l.initial.f (elements_text (map shape_of (take l.expression-index l.expression-items))) l.f
