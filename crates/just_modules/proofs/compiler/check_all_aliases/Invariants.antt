-- The aliases of the modules so far lead somewhere.
use Rattle.resolve_recipes.specs.Named.{AllByName}
use Rattle.just_modules.specs.Aliases.{AllLead}
use Rattle.just_modules.proofs.Aliases.{HoldBefore}
use Rattle.just_modules.proofs.compiler.check_all_aliases.Given as goal

abbrev pub invariant-loop-module : goal.invariant-loop-module
invariant-loop-module l = AllByName l.compilation → HoldBefore (λ k other. AllLead l.compilation k other.aliases.items) l.compilation.modules.items l.module
