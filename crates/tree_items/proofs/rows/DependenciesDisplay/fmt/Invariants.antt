-- The dependencies so far are written.
use Rattle.std.proofs.Common.{take}
use Rattle.std.specs.Fmt.{HasWritten, IsPlainFormatter}
use Rattle.tree_items.specs.Recipes.{dependencies_text, dependency_shapes}
use Rattle.tree_items.proofs.rows.DependenciesDisplay.fmt.Given as goal

abbrev pub invariant-loop-dependency : goal.invariant-loop-dependency
invariant-loop-dependency g l =
    IsPlainFormatter l.initial.f → HasWritten g.W.Write.write_str_gives l.initial.f (dependencies_text (dependency_shapes (take l.dependency-index l.dependency-items))) l.f
