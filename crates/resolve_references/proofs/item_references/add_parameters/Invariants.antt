-- The loop has added what the parts before its place have.
use Rattle.std.proofs.Common.{◌≡◌, ◌++◌, take}
use Rattle.std.specs.List.{flat_map}
use Rattle.resolve_references.specs.ItemReferences.{references_of_parameter}
use Rattle.resolve_references.proofs.item_references.add_parameters.Given as goal

abbrev pub invariant-loop-parameter : goal.invariant-loop-parameter
invariant-loop-parameter l =
    l.references.list.items ≡ l.initial.references.list.items ++ flat_map references_of_parameter (take l.parameter-index l.parameters)
