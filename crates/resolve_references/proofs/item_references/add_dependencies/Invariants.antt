-- The loop has added what the parts before its place have.
use Rattle.std.proofs.Common.{◌≡◌, ◌++◌, take}
use Rattle.std.specs.List.{flat_map}
use Rattle.resolve_references.specs.ItemReferences.{references_of_dependency}
use Rattle.resolve_references.proofs.item_references.add_dependencies.Given as goal

abbrev pub invariant-loop-dependency : goal.invariant-loop-dependency
invariant-loop-dependency l =
    l.references.list.items ≡ l.initial.references.list.items ++ flat_map references_of_dependency (take l.dependency-index l.dependencies)
