-- What is left of the row settles the answer.
use Rattle.std.proofs.Common.{◌≡◌, drop, map}
use Rattle.std.specs.List.{list_all}
use Rattle.tree_items.specs.Recipes.{dependency_shape}
use Rattle.tree_items.specs.Printable.{is_closed}
use Rattle.tree_items.proofs.printable.are_all_closed.Given as goal

abbrev pub invariant-loop-dependency : goal.invariant-loop-dependency
invariant-loop-dependency l = list_all is_closed (map dependency_shape (drop l.dependency-index l.dependencies)) ≡ list_all is_closed (map dependency_shape l.dependencies)
