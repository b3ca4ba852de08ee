-- The references have those of the parts so far.
use Rattle.std.proofs.Common.{◌≡◌, ◌++◌, map, take}
use Rattle.std.specs.List.{flat_map}
use Rattle.resolve_references.specs.References.{references_of}
use Rattle.justfile_analyzer.specs.Steady.{argument_of}
use Rattle.justfile_analyzer.proofs.steady.add_arguments.Given as goal

abbrev pub invariant-loop-argument : goal.invariant-loop-argument
invariant-loop-argument l = l.references.list.items ≡ l.initial.references.list.items ++ flat_map references_of (map argument_of (take l.argument-index l.arguments))
