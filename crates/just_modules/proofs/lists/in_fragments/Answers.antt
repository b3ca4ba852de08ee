-- The first use is that of this one, or stands further on.
use Rattle.std.proofs.Common.{arith, rules}
use Rattle.just_modules.specs.Lists.{in_fragment}
use Rattle.just_modules.proofs.Features.{row_found, row_goes_on}
use Rattle.just_modules.proofs.lists.in_fragments.Goals as goal

pub returns-then-is_some : goal.returns-then-is_some
returns-then-is_some c = row_found in_fragment _ c.loop-fragment.fragment-index c.fragment-item.result _ c.loop-fragment.invariant (omega arith) c.fragment-item.is c.in_fragment-found.ensures (search rules)

pub loop-fragment-preserved : goal.loop-fragment-preserved
loop-fragment-preserved c = row_goes_on in_fragment _ c.loop-fragment.fragment-index c.fragment-item.result _ c.loop-fragment.invariant (omega arith) c.fragment-item.is c.in_fragment-found.ensures (search rules)
