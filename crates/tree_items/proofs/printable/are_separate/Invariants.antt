-- What is left of the row, after the parameter before it, is apart as the whole row is.
use Rattle.std.proofs.Common.{◌≡◌, drop}
use Rattle.tree_items.specs.Printable.{parameter_takes_else, parameter_is_else, are_separate}
use Rattle.tree_items.specs.Recipes.{parameter_shape, parameter_shapes}
use Rattle.tree_items.proofs.Apart.{behind}
use Rattle.tree_items.proofs.printable.are_separate.Given as goal

abbrev pub invariant-loop-parameter : goal.invariant-loop-parameter
invariant-loop-parameter l = behind parameter_takes_else parameter_is_else parameter_shape l.takes (drop l.parameter-index l.parameters) ≡ are_separate (parameter_shapes l.parameters)
