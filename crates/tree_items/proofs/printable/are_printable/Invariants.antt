-- What is left of the row settles the answer.
use Rattle.std.proofs.Common.{◌≡◌, drop, map}
use Rattle.std.specs.List.{list_all}
use Rattle.tree_items.specs.Files.{item_shape}
use Rattle.tree_items.specs.Printable.{is_item_printable}
use Rattle.tree_items.proofs.printable.are_printable.Given as goal

abbrev pub invariant-loop-item : goal.invariant-loop-item
invariant-loop-item l = list_all is_item_printable (map item_shape (drop l.item-index l.items)) ≡ list_all is_item_printable (map item_shape l.items)
