-- With the places of the references to come, the places are those of all.
use Rattle.std.proofs.Common.{◌≡◌, drop}
use Rattle.resolve_references.specs.Places.{places_before, places_of}
use Rattle.resolve_references.proofs.variable_resolver.VariableResolver.resolve_references.Given as goal

abbrev pub invariant-loop-reference : goal.invariant-loop-reference
invariant-loop-reference l =
    places_before l.places.items (places_of l.self (drop l.reference-index l.references.list.items)) ≡ places_of l.self l.references.list.items
