-- The loop has added what the parts before its place have.
use Rattle.std.proofs.Common.{◌≡◌, ◌++◌, take}
use Rattle.std.specs.List.{flat_map}
use Rattle.resolve_references.specs.ItemReferences.{references_of_line}
use Rattle.resolve_references.proofs.item_references.add_body.Given as goal

abbrev pub invariant-loop-line : goal.invariant-loop-line
invariant-loop-line l =
    l.references.list.items ≡ l.initial.references.list.items ++ flat_map references_of_line (take l.line-index l.body)
