-- The references have those of the parts so far.
use Rattle.std.proofs.Common.{◌≡◌, ◌++◌, take}
use Rattle.std.specs.List.{flat_map}
use Rattle.resolve_references.specs.References.{references_of}
use Rattle.justfile_analyzer.specs.Steady.{first_of_parameter}
use Rattle.justfile_analyzer.proofs.steady.add_parameters.Given as goal

abbrev pub invariant-loop-parameter : goal.invariant-loop-parameter
invariant-loop-parameter l = l.references.list.items ≡ l.initial.references.list.items ++ flat_map references_of (flat_map first_of_parameter (take l.parameter-index l.parameters))
