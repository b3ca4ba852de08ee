-- The attributes so far are written.
use Rattle.std.proofs.Common.{take, map}
use Rattle.std.specs.Fmt.{HasWritten, IsPlainFormatter}
use Rattle.tree_attributes.specs.Attributes.{attributes_text}
use Rattle.tree_attributes.specs.Sets.Order.{item_shape}
use Rattle.tree_attributes.proofs.attribute_set.AttributeSetDisplay.fmt.Given as goal

abbrev pub invariant-loop-item : goal.invariant-loop-item
invariant-loop-item g l =
    IsPlainFormatter l.initial.f → HasWritten g.W.Write.write_str_gives l.initial.f (attributes_text (map item_shape (take l.item-index l.item-items))) l.f
