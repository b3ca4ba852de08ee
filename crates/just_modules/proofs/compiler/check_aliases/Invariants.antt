-- The aliases so far lead somewhere.
use Rattle.resolve_recipes.specs.Named.{AllByName}
use Rattle.just_modules.specs.Aliases.{LeadsAt}
use Rattle.just_modules.proofs.Aliases.{HoldBefore}
use Rattle.just_modules.proofs.compiler.check_aliases.Given as goal

abbrev pub invariant-loop-place : goal.invariant-loop-place
invariant-loop-place l = AllByName l.compilation → HoldBefore (λ j at. LeadsAt l.compilation l.module at) l.aliases l.place-index
