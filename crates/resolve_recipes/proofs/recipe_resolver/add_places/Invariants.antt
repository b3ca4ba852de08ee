-- With the places of the dependencies to come, the places are those of all.
use Rattle.std.proofs.Common.{◌≡◌, drop}
use Rattle.resolve_recipes.specs.Named.{AllByName}
use Rattle.resolve_recipes.specs.Resolving.{needs_of, places_before}
use Rattle.resolve_recipes.proofs.recipe_resolver.add_places.Given as goal

abbrev pub invariant-loop-dependency : goal.invariant-loop-dependency
invariant-loop-dependency l =
    AllByName l.compilation → places_before l.places.items (needs_of l.compilation l.resolver l.module l.recipe (drop l.dependency-index l.dependencies)) ≡ places_before l.initial.places.items (needs_of l.compilation l.resolver l.module l.recipe l.dependencies)
