-- The expressions are written as before, and those before the place have their numbers.
use Rattle.std.proofs.Common.{◌≡◌, ◌∷◌, [], length, map}
use Rattle.tree_expressions.specs.declared.expression.Expression.{Expression}
use Rattle.tree_expressions.specs.Shape.{shape_of}
use Rattle.resolve_references.specs.Said.{said_of}
use Rattle.resolve_references.specs.Seen.{seeing}
use Rattle.resolve_references.proofs.Seeing.{EachIsNumbered}
use Rattle.resolve_references.proofs.numbering.number_row.Given as goal

abbrev pub invariant-loop-index : goal.invariant-loop-index
invariant-loop-index l = record {
  many : length l.expressions.items ≡ length l.initial.expressions.items;
  shapes : map shape_of l.expressions.items ≡ map shape_of l.initial.expressions.items;
  said : map said_of l.expressions.items ≡ map said_of l.initial.expressions.items;
  numbers : EachIsNumbered l.names.parameters.now l.names.bindings.now (λ seen (e : Expression). seeing seen e ∷ []) l.expressions.items l.index;
}
