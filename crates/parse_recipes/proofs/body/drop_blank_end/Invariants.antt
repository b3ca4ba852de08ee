use Rattle.std.proofs.Common.{◌≡◌, length, map, take}
use Rattle.tree_items.specs.Lines.{pieces_of}
use Rattle.parse_recipes.specs.Bodies.{without_blank_end}
use Rattle.parse_recipes.proofs.body.drop_blank_end.Given as goal

abbrev pub invariant-loop-line : goal.invariant-loop-line
invariant-loop-line l = record {
  kept : without_blank_end (map pieces_of l.lines.items) ≡ without_blank_end (map pieces_of l.initial.lines.items);
  front : l.lines.items ≡ take (length l.lines.items) l.initial.lines.items;
}

abbrev pub decreases-loop-line : goal.decreases-loop-line
decreases-loop-line l = length l.lines.items
