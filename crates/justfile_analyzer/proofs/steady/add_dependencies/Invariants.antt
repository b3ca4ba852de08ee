-- The references have those of the parts so far.
use Rattle.std.proofs.Common.{◌≡◌, ◌++◌, take}
use Rattle.std.specs.List.{flat_map}
use Rattle.resolve_references.specs.References.{references_of}
use Rattle.justfile_analyzer.specs.Steady.{arguments_of}
use Rattle.justfile_analyzer.proofs.steady.add_dependencies.Given as goal

abbrev pub invariant-loop-dependency : goal.invariant-loop-dependency
invariant-loop-dependency l = l.references.list.items ≡ l.initial.references.list.items ++ flat_map references_of (flat_map arguments_of (take l.dependency-index l.dependencies))
