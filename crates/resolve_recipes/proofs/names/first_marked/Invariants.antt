-- With the places to come the earliest so far is that of all.
use Rattle.std.proofs.Common.{◌≡◌, drop, filter, nat_eq}
use Rattle.resolve_recipes.specs.Defaults.{earliest, earliest_from, has_default}
use Rattle.resolve_recipes.specs.Nodes.{recipe_at}
use Rattle.resolve_recipes.proofs.names.first_marked.Given as goal

abbrev pub invariant-loop-place : goal.invariant-loop-place
invariant-loop-place l = earliest_from l.first (filter (λ item. has_default (recipe_at l.compilation item)) (drop l.place-index l.places)) ≡ earliest (filter (λ item. has_default (recipe_at l.compilation item)) l.places)
