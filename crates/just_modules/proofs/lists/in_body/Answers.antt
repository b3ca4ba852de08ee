-- The first use is that of this one, or stands further on.
use Rattle.std.proofs.Common.{arith, rules}
use Rattle.just_modules.specs.Lists.{in_line}
use Rattle.just_modules.proofs.Features.{row_found, row_goes_on}
use Rattle.just_modules.proofs.lists.in_body.Goals as goal

pub returns-then-is_some : goal.returns-then-is_some
returns-then-is_some c = row_found in_line _ c.loop-line.line-index c.line-item.result _ c.loop-line.invariant (omega arith) c.line-item.is c.in_line-found.ensures (search rules)

pub loop-line-preserved : goal.loop-line-preserved
loop-line-preserved c = row_goes_on in_line _ c.loop-line.line-index c.line-item.result _ c.loop-line.invariant (omega arith) c.line-item.is c.in_line-found.ensures (search rules)
