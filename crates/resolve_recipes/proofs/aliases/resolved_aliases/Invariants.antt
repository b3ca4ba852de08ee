-- With the aliases to come, the aliases are those of all.
use Rattle.std.proofs.Common.{◌≡◌, drop}
use Rattle.resolve_recipes.specs.Named.{AllByName}
use Rattle.resolve_recipes.specs.Aliases.{resolved_at}
use Rattle.resolve_recipes.specs.Resolving.{places_before}
use Rattle.resolve_recipes.proofs.aliases.resolved_aliases.Given as goal

abbrev pub invariant-loop-place : goal.invariant-loop-place
invariant-loop-place l =
    AllByName l.compilation → places_before l.aliases.items (resolved_at l.compilation l.resolver.places.now l.ranks l.module (drop l.place-index l.node.aliases.items)) ≡ resolved_at l.compilation l.resolver.places.now l.ranks l.module l.node.aliases.items
