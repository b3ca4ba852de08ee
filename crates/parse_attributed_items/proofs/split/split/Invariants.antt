-- The attributes that were taken, and those that are still to be taken.
use Rattle.std.proofs.Common.{◌≡◌, ◌++◌, length, map}
use Rattle.std.specs.Vec.Iter.{into_iter_items, into_iter_len}
use Rattle.tree_attributes.specs.Sets.Order.{item_shape}
use Rattle.parse_expressions.specs.Literals.{Origin}
use Rattle.parse_attributes.specs.Seen.{AreWholeReads, read_shapes}
use Rattle.parse_attributed_items.specs.Fitting.{known}
use Rattle.parse_attributed_items.specs.Seen.{AreWholeKnown}
use Rattle.parse_attributed_items.proofs.split.split.Given as goal

abbrev pub invariant-loop-read : goal.invariant-loop-read
invariant-loop-read l = record {
  can : (goal.iterator-loop-read).can_next l.read-iterator;
  finite : (goal.iterator-loop-read).is_finite l.read-iterator;
  count : into_iter_len l.read-iterator ≡ length (into_iter_items l.read-iterator);
  so_far : map item_shape l.known.items.items ++ known (read_shapes (into_iter_items l.read-iterator)) ≡ known (read_shapes l.fn.reads.items);
  these : (origin : Origin) → AreWholeReads origin l.fn.reads.items → AreWholeKnown origin l.known;
  others : (origin : Origin) → AreWholeReads origin l.fn.reads.items → AreWholeReads origin (into_iter_items l.read-iterator);
}
