-- With those of the attributes to come, the references are those of all.
use Rattle.std.proofs.Common.{◌≡◌, ◌++◌}
use Rattle.std.specs.List.{flat_map}
use Rattle.std.specs.Slice.Iter.{iter_rest}
use Rattle.tree_attributes.specs.Sets.Sets.{items_of}
use Rattle.resolve_references.specs.References.{references_of}
use Rattle.justfile_analyzer.specs.Steady.{first_of_item}
use Rattle.justfile_analyzer.proofs.steady.add_attributes.Given as goal

abbrev pub invariant-loop-item : goal.invariant-loop-item
invariant-loop-item l =
    l.references.list.items ++ flat_map references_of (flat_map first_of_item (iter_rest l.item-iterator)) ≡ l.initial.references.list.items ++ flat_map references_of (flat_map first_of_item (items_of l.attributes))
