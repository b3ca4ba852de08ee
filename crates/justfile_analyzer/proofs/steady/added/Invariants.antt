-- The references are those of the recipes so far.
use Rattle.std.proofs.Common.{◌≡◌, take}
use Rattle.std.specs.List.{flat_map}
use Rattle.resolve_references.specs.References.{references_of}
use Rattle.justfile_analyzer.specs.Steady.{first_at}
use Rattle.justfile_analyzer.proofs.steady.added.Given as goal

abbrev pub invariant-loop-place : goal.invariant-loop-place
invariant-loop-place l = l.references.list.items ≡ flat_map references_of (flat_map (first_at l.compilation l.share_subsequents) (take l.place-index l.places))
