-- The arguments so far are written.
use Rattle.std.proofs.Common.{take}
use Rattle.std.specs.Fmt.{HasWritten, IsPlainFormatter}
use Rattle.tree_items.specs.Recipes.{arguments_text, argument_shapes}
use Rattle.tree_items.proofs.rows.ArgumentsDisplay.fmt.Given as goal

abbrev pub invariant-loop-argument : goal.invariant-loop-argument
invariant-loop-argument g l =
    IsPlainFormatter l.initial.f → HasWritten g.W.Write.write_str_gives l.initial.f (arguments_text (argument_shapes (take l.argument-index l.argument-items))) l.f
