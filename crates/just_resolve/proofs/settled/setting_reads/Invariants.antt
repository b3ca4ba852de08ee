-- With the places to come, the places are those that all settings read.
use Rattle.std.proofs.Common.{◌≡◌, drop, flat_map}
use Rattle.resolve_references.specs.ItemReferences.{references_of_set}
use Rattle.resolve_references.specs.Places.{places_before, places_of}
use Rattle.just_resolve.specs.Settling.{sets_at}
use Rattle.just_resolve.proofs.settled.setting_reads.Given as goal

abbrev pub invariant-loop-place : goal.invariant-loop-place
invariant-loop-place l = places_before l.places.items (places_of l.resolver (flat_map references_of_set (sets_at l.compilation (drop l.place-index l.sets)))) ≡ places_of l.resolver (flat_map references_of_set (sets_at l.compilation l.sets))
