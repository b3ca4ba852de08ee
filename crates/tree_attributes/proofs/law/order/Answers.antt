-- The laws of sorted lists, at attributes.
use Rattle.std.specs.Cmp.{IsStrictWeakOrder}
use Rattle.std.proofs.lemmas.List.Sorted.{ranks_by}
use Rattle.tree_attributes.specs.Sets.Order.{attribute_total, is_before, item_shape}
use Rattle.tree_attributes.proofs.Sets.Sorted.{map_sorted, sorted_is_permutation, sorted_is_sorted, sorted_is_stable, sorted_twice}
use Rattle.tree_attributes.proofs.law.order.Goals as goal

ranked : IsStrictWeakOrder is_before
ranked = ranks_by attribute_total (λ attribute. attribute)

pub returns-clause-lost : goal.returns-clause-lost
returns-clause-lost c = sorted_is_permutation is_before

pub returns-clause-sorted : goal.returns-clause-sorted
returns-clause-sorted c = sorted_is_sorted is_before ranked

pub returns-clause-stable : goal.returns-clause-stable
returns-clause-stable c = sorted_is_stable is_before ranked

pub returns-clause-twice : goal.returns-clause-twice
returns-clause-twice c = sorted_twice is_before ranked

pub returns-clause-places : goal.returns-clause-places
returns-clause-places c = map_sorted item_shape is_before
