-- What is left of the row settles the answer.
use Rattle.std.proofs.Common.{◌≡◌, drop, map}
use Rattle.std.specs.List.{list_any}
use Rattle.tree_items.specs.Lines.{pieces_of}
use Rattle.tree_items.specs.Printable.{has_return}
use Rattle.tree_items.proofs.printable.any_return.Given as goal

abbrev pub invariant-loop-line : goal.invariant-loop-line
invariant-loop-line l = list_any has_return (map pieces_of (drop l.line-index l.lines)) ≡ list_any has_return (map pieces_of l.lines)
