-- What the loops have compared so far, and what falls from call to call.
use Rattle.std.proofs.Common.{◌≡◌, ◌+◌, ◌*◌, ◌≤◌, map, length, drop}
use Rattle.std.specs.Option.{option_map}
use Rattle.tree_expressions.specs.Order.{key_cmp, key_of, row_key, part_key, held_size}
use Rattle.tree_expressions.specs.declared.expression.Expression.{size-Expression}
use Rattle.tree_expressions.specs.declared.expression.Expression.TheShapes.{weighed-Expression-FormatString-1-at-2}
use denote.Param.Weighed.{most}
use Rattle.tree_expressions.proofs.order.+compare.Given as goal

abbrev pub decreases-compare : goal.decreases-compare
decreases-compare l = 4 * size-Expression l.here.now + 1

abbrev pub decreases-compare_held : goal.decreases-compare_held
decreases-compare_held l = 4 * held_size (option_map (λ e. size-Expression e.now) l.here) + 2

abbrev pub decreases-compare_inside : goal.decreases-compare_inside
decreases-compare_inside l = 4 * size-Expression l.here.now

abbrev pub decreases-compare_part : goal.decreases-compare_part
decreases-compare_part l = 4 * size-Expression l.here.now.0 + 2

abbrev pub decreases-compare_parts : goal.decreases-compare_parts
decreases-compare_parts l = 4 * most (λ x. weighed-Expression-FormatString-1-at-2.weight _ size-Expression x) l.here.now + 3

abbrev pub decreases-compare_rows : goal.decreases-compare_rows
decreases-compare_rows l = 4 * most size-Expression l.here.now + 2

abbrev pub invariant-compare_parts-loop-index : goal.invariant-compare_parts-loop-index
invariant-compare_parts-loop-index l = record {
  within : l.index ≤ length l.there;
  same : key_cmp (row_key (drop l.index (map part_key (map (λ e. (key_of e.0, e.1)) l.here)))) (row_key (drop l.index (map part_key (map (λ e. (key_of e.0, e.1)) l.there))))
      ≡ key_cmp (row_key (map part_key (map (λ e. (key_of e.0, e.1)) l.here))) (row_key (map part_key (map (λ e. (key_of e.0, e.1)) l.there)));
}

abbrev pub invariant-compare_rows-loop-index : goal.invariant-compare_rows-loop-index
invariant-compare_rows-loop-index l = record {
  within : l.index ≤ length l.there;
  same : key_cmp (row_key (drop l.index (map key_of l.here))) (row_key (drop l.index (map key_of l.there)))
      ≡ key_cmp (row_key (map key_of l.here)) (row_key (map key_of l.there));
}
