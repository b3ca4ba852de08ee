-- The items so far give nothing.
use Rattle.std.proofs.Common.{◌≡◌, drop}
use Rattle.tree_items.specs.FileIndentation.{first_given, item_indentation}
use Rattle.tree_items.proofs.indentation.first_indentation.Given as goal

abbrev pub invariant-loop-item : goal.invariant-loop-item
invariant-loop-item l = first_given (item_indentation l.os) (drop l.item-index l.items) ≡ first_given (item_indentation l.os) l.items
