-- The items up to the index are numbered, and all are written as before.
use Rattle.std.proofs.Common.{◌≡◌, map}
use Rattle.tree_attributes.specs.Sets.Numbering.{IsNumberedItem}
use Rattle.tree_attributes.specs.Sets.Sets.{written_item}
use Rattle.tree_attributes.proofs.Sets.InTurn.{AreUpTo}
use Rattle.tree_attributes.proofs.attribute_set.AttributeSet.number_variables.Given as goal

abbrev pub invariant-loop-index : goal.invariant-loop-index
invariant-loop-index g l = record {
  written : map written_item l.self.items.items ≡ map written_item l.initial.self.items.items;
  numbered : AreUpTo (IsNumberedItem (g.N.VariableNumbers.number l.numbers) (g.N.VariableNumbers.number l.environment)) l.initial.self.items.items l.self.items.items l.index;
}
