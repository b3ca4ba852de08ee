-- The recipes before the place are not refused.
use Rattle.std.proofs.Common.{◌≡◌, drop}
use Rattle.resolve_recipes.specs.Named.{AllByName}
use Rattle.just_resolve.specs.Table.{first_of, refusal_at}
use Rattle.just_resolve.proofs.recipe_table.check_module.Given as goal

abbrev pub invariant-loop-place : goal.invariant-loop-place
invariant-loop-place l =
    AllByName l.compilation → first_of (refusal_at l.compilation l.resolver l.module) (drop l.place-index l.disabled) ≡ first_of (refusal_at l.compilation l.resolver l.module) l.disabled
