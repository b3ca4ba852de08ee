-- The fragments are written as before, and those before the place have their numbers.
use Rattle.std.proofs.Common.{◌≡◌, ℕ, List, length, map}
use Rattle.tree_items.specs.Lines.{piece_of}
use Rattle.tree_items.specs.declared.line.Fragment.{Fragment}
use Rattle.resolve_references.specs.Said.{said_by}
use Rattle.resolve_references.specs.Seen.{seen_in_fragment}
use Rattle.resolve_references.proofs.Seeing.{EachIsNumbered}
use Rattle.resolve_references.proofs.numbering.number_line.Given as goal

abbrev pub invariant-loop-index : goal.invariant-loop-index
invariant-loop-index l = record {
  many : length l.line.fragments.items ≡ length l.initial.line.fragments.items;
  shapes : map piece_of l.line.fragments.items ≡ map piece_of l.initial.line.fragments.items;
  said : (seen : List (List ℕ × ℕ)) → map (λ (x : Fragment). said_by (seen_in_fragment seen x)) l.line.fragments.items ≡ map (λ (x : Fragment). said_by (seen_in_fragment seen x)) l.initial.line.fragments.items;
  numbers : EachIsNumbered l.names.parameters.now l.names.bindings.now seen_in_fragment l.line.fragments.items l.index;
}
