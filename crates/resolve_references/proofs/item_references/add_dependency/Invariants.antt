-- The loop has added what the parts before its place have.
use Rattle.std.proofs.Common.{◌≡◌, ◌++◌, take}
use Rattle.std.specs.List.{flat_map}
use Rattle.resolve_references.specs.ItemReferences.{references_of_argument}
use Rattle.resolve_references.proofs.item_references.add_dependency.Given as goal

abbrev pub invariant-loop-argument : goal.invariant-loop-argument
invariant-loop-argument l =
    l.references.list.items ≡ l.initial.references.list.items ++ flat_map references_of_argument (take l.argument-index l.dependency.arguments.items)
