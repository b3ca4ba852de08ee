-- What is left of the row, after the argument before it, is apart as the whole row is.
use Rattle.std.proofs.Common.{◌≡◌, drop}
use Rattle.tree_items.specs.Printable.{argument_takes_else, argument_is_else, are_closed}
use Rattle.tree_items.specs.Recipes.{argument_shape, argument_shapes}
use Rattle.tree_items.proofs.Apart.{behind}
use Rattle.tree_items.proofs.printable.are_closed.Given as goal

abbrev pub invariant-loop-argument : goal.invariant-loop-argument
invariant-loop-argument l = behind argument_takes_else argument_is_else argument_shape l.takes (drop l.argument-index l.arguments) ≡ are_closed (argument_shapes l.arguments)
