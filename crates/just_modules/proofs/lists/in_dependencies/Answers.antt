-- The first use is that of this one, or stands further on.
use Rattle.std.proofs.Common.{arith, rules}
use Rattle.just_modules.specs.Lists.{in_dependency}
use Rattle.just_modules.proofs.Features.{row_found, row_goes_on}
use Rattle.just_modules.proofs.lists.in_dependencies.Goals as goal

pub returns-then-is_some : goal.returns-then-is_some
returns-then-is_some c = row_found in_dependency _ c.loop-dependency.dependency-index c.dependency-item.result _ c.loop-dependency.invariant (omega arith) c.dependency-item.is c.in_dependency-found.ensures (search rules)

pub loop-dependency-preserved : goal.loop-dependency-preserved
loop-dependency-preserved c = row_goes_on in_dependency _ c.loop-dependency.dependency-index c.dependency-item.result _ c.loop-dependency.invariant (omega arith) c.dependency-item.is c.in_dependency-found.ensures (search rules)
