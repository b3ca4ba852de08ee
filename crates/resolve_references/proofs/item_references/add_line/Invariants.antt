-- The loop has added what the parts before its place have.
use Rattle.std.proofs.Common.{◌≡◌, ◌++◌, take}
use Rattle.std.specs.List.{flat_map}
use Rattle.resolve_references.specs.ItemReferences.{references_of_fragment}
use Rattle.resolve_references.proofs.item_references.add_line.Given as goal

abbrev pub invariant-loop-fragment : goal.invariant-loop-fragment
invariant-loop-fragment l =
    l.references.list.items ≡ l.initial.references.list.items ++ flat_map references_of_fragment (take l.fragment-index l.line.fragments.items)
