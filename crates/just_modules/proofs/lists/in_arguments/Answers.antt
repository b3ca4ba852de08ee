-- The first use is that of this one, or stands further on.
use Rattle.std.proofs.Common.{arith, rules}
use Rattle.just_modules.specs.Lists.{in_argument}
use Rattle.just_modules.proofs.Features.{row_found, row_goes_on}
use Rattle.just_modules.proofs.lists.in_arguments.Goals as goal

pub returns-then-is_some : goal.returns-then-is_some
returns-then-is_some c = row_found in_argument _ c.loop-argument.argument-index c.argument-item.result _ c.loop-argument.invariant (omega arith) c.argument-item.is c.in_argument-found.ensures (search rules)

pub loop-argument-preserved : goal.loop-argument-preserved
loop-argument-preserved c = row_goes_on in_argument _ c.loop-argument.argument-index c.argument-item.result _ c.loop-argument.invariant (omega arith) c.argument-item.is c.in_argument-found.ensures (search rules)
