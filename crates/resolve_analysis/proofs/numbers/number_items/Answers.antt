-- The item that is put in is the one before but for the numbers of its variables.
use Rattle.std.proofs.Common.{◌≤◌, ap, ◌∙◌, arith, length}
use Rattle.std.proofs.Math.Seq.{map-set_same}
use Rattle.tree_items.specs.Contexts.{number_in}
use Rattle.modules_compilation.specs.Places.{name_of}
use Rattle.resolve_references.specs.Seen.{HaveNumbers}
use Rattle.resolve_analysis.specs.Numbered.{IsSameItem}
use Rattle.resolve_analysis.proofs.Done.{done_all, done_more, holds_all, holds_more}
use Rattle.resolve_analysis.proofs.Numbered.{name_kept}
use Rattle.resolve_analysis.proofs.Same.{same_item}
use Rattle.resolve_analysis.proofs.numbers.number_items.Goals as goal

pub loop-place-preserved : goal.loop-place-preserved
loop-place-preserved c = record {
  names = map-set_same name_of c.loop-place.items.items c.loop-place.place c.number_item.new.item c.index_mut.result.now (name_kept c.index_mut.result.now c.number_item.new.item c.number_item.ensures.numbered ∙ ap name_of c.index_mut.ensures.value) ∙ c.loop-place.invariant.names;
  same = done_more IsSameItem _ c.loop-place.items.items c.loop-place.place c.index_mut.result.now c.number_item.new.item (omega arith) c.loop-place.invariant.same c.index_mut.ensures.value (record { numbered = c.number_item.ensures.numbered; shape = c.number_item.ensures.shape; said = c.number_item.ensures.said });
  numbers = holds_more (HaveNumbers (number_in c.args.names.now)) c.loop-place.items.items c.loop-place.place c.number_item.new.item (omega arith) c.loop-place.invariant.numbers c.in_ok-number_item.ensures.numbers;
}

pub returns-in_err-number_item-clause-names : goal.returns-in_err-number_item-clause-names
returns-in_err-number_item-clause-names c = map-set_same name_of c.loop-place.items.items c.loop-place.place c.number_item.new.item c.index_mut.result.now (name_kept c.index_mut.result.now c.number_item.new.item c.number_item.ensures.numbered ∙ ap name_of c.index_mut.ensures.value) ∙ c.loop-place.invariant.names

pub returns-in_err-number_item-clause-same : goal.returns-in_err-number_item-clause-same
returns-in_err-number_item-clause-same c =
    let done = done_more IsSameItem _ c.loop-place.items.items c.loop-place.place c.index_mut.result.now c.number_item.new.item (omega arith) c.loop-place.invariant.same c.index_mut.ensures.value (record { numbered = c.number_item.ensures.numbered; shape = c.number_item.ensures.shape; said = c.number_item.ensures.said }) in
    record { many = done.many; each = done_all IsSameItem same_item _ _ _ done }

pub returns-clause-same : goal.returns-clause-same
returns-clause-same c = record { many = c.loop-place.invariant.same.many; each = done_all IsSameItem same_item _ _ _ c.loop-place.invariant.same }

pub returns-clause-numbers : goal.returns-clause-numbers
returns-clause-numbers c =
    let past : length c.loop-place.items.items ≤ c.loop-place.place = omega (arith, c.loop-place-test.false, c.loop-place.invariant.same.many) in
    holds_all (HaveNumbers (number_in c.args.names.now)) c.loop-place.items.items c.loop-place.place past c.loop-place.invariant.numbers
