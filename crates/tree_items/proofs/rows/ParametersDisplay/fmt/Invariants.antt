-- The parameters so far are written.
use Rattle.std.proofs.Common.{take}
use Rattle.std.specs.Fmt.{HasWritten, IsPlainFormatter}
use Rattle.tree_items.specs.Recipes.{parameters_text, parameter_shapes}
use Rattle.tree_items.proofs.rows.ParametersDisplay.fmt.Given as goal

abbrev pub invariant-loop-parameter : goal.invariant-loop-parameter
invariant-loop-parameter g l =
    IsPlainFormatter l.initial.f → HasWritten g.W.Write.write_str_gives l.initial.f (parameters_text (parameter_shapes (take l.parameter-index l.parameter-items))) l.f
