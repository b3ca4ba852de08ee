-- The first use is that of this one, or stands further on.
use Rattle.std.proofs.Common.{rules}
use Rattle.std.specs.Slice.Iter.{iter_rest}
use Rattle.tree_attributes.specs.Sets.Sets.{items_of}
use Rattle.just_modules.specs.Lists.{in_attribute_item}
use Rattle.just_modules.proofs.Features.{rest_goes_on}
use Rattle.just_modules.proofs.lists.in_attributes.Goals as goal

pub loop-item-preserved : goal.loop-item-preserved
loop-item-preserved c = rest_goes_on in_attribute_item (items_of c.args.attributes.now) (iter_rest c.loop-item.item-iterator) (iter_rest c.next.new.self) c.in-Some.item.now _ c.loop-item.invariant c.in-Some.ensures.steps c.in_attribute-found.ensures (search rules)
