-- The loop has added what the parts before its place have.
use Rattle.std.proofs.Common.{◌≡◌, ◌++◌, take}
use Rattle.std.specs.List.{flat_map}
use Rattle.resolve_references.specs.References.{references_of}
use Rattle.resolve_references.proofs.item_references.add_row.Given as goal

abbrev pub invariant-loop-expression : goal.invariant-loop-expression
invariant-loop-expression l =
    l.references.list.items ≡ l.initial.references.list.items ++ flat_map references_of (take l.expression-index l.expressions)
