-- The first use is that of this one, or stands further on.
use Rattle.std.proofs.Common.{arith, rules}
use Rattle.just_modules.specs.Lists.{in_parameter}
use Rattle.just_modules.proofs.Features.{row_found, row_goes_on}
use Rattle.just_modules.proofs.lists.in_parameters.Goals as goal

pub returns-then-is_some : goal.returns-then-is_some
returns-then-is_some c = row_found in_parameter _ c.loop-parameter.parameter-index c.parameter-item.result _ c.loop-parameter.invariant (omega arith) c.parameter-item.is c.in_parameter-found.ensures (search rules)

pub loop-parameter-preserved : goal.loop-parameter-preserved
loop-parameter-preserved c = row_goes_on in_parameter _ c.loop-parameter.parameter-index c.parameter-item.result _ c.loop-parameter.invariant (omega arith) c.parameter-item.is c.in_parameter-found.ensures (search rules)
