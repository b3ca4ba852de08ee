-- Each turn takes an attribute.
use Rattle.std.proofs.Common.{◌≡◌, ◌+◌, suc, List, ◌∷◌, ◌++◌, length, map, ap, subst, arith}
use Rattle.std.specs.Vec.Iter.{into_iter_items, into_iter_len}
use Rattle.tree_attributes.specs.Sets.Order.{item_shape}
use Rattle.parse_expressions.specs.Literals.{Origin}
use Rattle.parse_attributes.specs.declared.attribute.AttributeRead.{AttributeRead}
use Rattle.parse_attributes.specs.Seen.{AreWholeReads, IsWholeRead, read_shapes}
use Rattle.parse_attributes.proofs.Adding.{all_first, all_others}
use Rattle.parse_attributed_items.specs.Fitting.{known}
use Rattle.parse_attributed_items.proofs.Taken.{more_shapes, more_whole}
use Rattle.parse_attributed_items.proofs.split.split.Goals as goal

pub loop-read-preserved : goal.loop-read-preserved
loop-read-preserved c =
    let l = c.loop-read in
    let i = l.invariant in
    let r = c.in-Some.read in
    let rest = into_iter_items c.next.new.self in
    let items : into_iter_items l.read-iterator ≡ r ∷ rest = c.in-Some.ensures.steps.0 in
    let fewer : into_iter_len c.next.new.self + 1 ≡ into_iter_len l.read-iterator = c.in-Some.ensures.steps.1 in
    let more : length (into_iter_items l.read-iterator) ≡ suc (length rest) = ap length items in
    let all_left : (x : Origin) → AreWholeReads x c.args.reads.items → AreWholeReads x (r ∷ rest) = λ x all. subst (AreWholeReads x) items (i.others x all) in
    record {
      can = tt;
      finite = tt;
      count = omega (arith, fewer, more, i.count);
      so_far = more_shapes l.known c.add.new.known r c.in_ok-add.ensures.attributes c.in_ok-add.ensures.options rest _
          (subst (λ (xs : List AttributeRead). map item_shape l.known.items.items ++ known (read_shapes xs) ≡ known (read_shapes c.args.reads.items)) items i.so_far);
      these = λ x all. more_whole l.known c.add.new.known r c.in_ok-add.ensures.attributes c.in_ok-add.ensures.options x (i.these x all) (all_first (IsWholeRead x) r rest (all_left x all));
      others = λ x all. all_others (IsWholeRead x) r rest (all_left x all);
    }
