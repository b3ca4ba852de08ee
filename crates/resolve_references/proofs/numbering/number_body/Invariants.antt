-- The lines are written as before, and those before the place have their numbers.
use Rattle.std.proofs.Common.{◌≡◌, ℕ, List, length, map}
use Rattle.tree_items.specs.Lines.{pieces_of}
use Rattle.tree_items.specs.declared.line.Line.{Line}
use Rattle.resolve_references.specs.Said.{said_by}
use Rattle.resolve_references.specs.Seen.{seen_in_line}
use Rattle.resolve_references.proofs.Seeing.{EachIsNumbered}
use Rattle.resolve_references.proofs.numbering.number_body.Given as goal

abbrev pub invariant-loop-index : goal.invariant-loop-index
invariant-loop-index l = record {
  many : length l.body.items ≡ length l.initial.body.items;
  shapes : map pieces_of l.body.items ≡ map pieces_of l.initial.body.items;
  said : (seen : List (List ℕ × ℕ)) → map (λ (x : Line). said_by (seen_in_line seen x)) l.body.items ≡ map (λ (x : Line). said_by (seen_in_line seen x)) l.initial.body.items;
  numbers : EachIsNumbered l.names.parameters.now l.names.bindings.now seen_in_line l.body.items l.index;
}
