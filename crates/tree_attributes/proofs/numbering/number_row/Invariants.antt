-- The expressions up to the index are numbered.
use Rattle.tree_expressions.specs.Numbering.{IsNumbered}
use Rattle.tree_attributes.proofs.Sets.InTurn.{AreUpTo}
use Rattle.tree_attributes.proofs.numbering.number_row.Given as goal

abbrev pub invariant-loop-index : goal.invariant-loop-index
invariant-loop-index g l = AreUpTo (IsNumbered (g.N.VariableNumbers.number l.numbers)) l.initial.expressions.items l.expressions.items l.index
