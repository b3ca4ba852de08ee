-- The item that is put in is the one before with its numbers, written as before.
use Rattle.std.proofs.Common.{ap, ◌∙◌, arith, refl}
use Rattle.std.proofs.Math.Seq.{map-set_same}
use Rattle.tree_attributes.specs.Sets.Numbering.{IsNumberedItem}
use Rattle.tree_attributes.specs.Sets.Sets.{written_item}
use Rattle.tree_attributes.proofs.Sets.InPlace.{stays_in_order}
use Rattle.tree_attributes.proofs.Sets.InTurn.{at_each, none_yet, one_more}
use Rattle.tree_attributes.proofs.attribute_set.AttributeSet.number_variables.Goals as goal

pub invariant_of-self : goal.invariant_of-self
invariant_of-self g c = record {
  in_order =
      stays_in_order c.loop-index.self.items.items _
      (map-set_same written_item c.loop-index.self.items.items c.loop-index.index c.number_variables.new.self c.index_mut.result.now (c.number_variables.ensures.written ∙ ap written_item c.index_mut.ensures.value))
      c.loop-index.self.in_order;
}

pub loop-index-init : goal.loop-index-init
loop-index-init g c = record { written = refl; numbered = none_yet (IsNumberedItem (g.N.VariableNumbers.number c.args.numbers.now) (g.N.VariableNumbers.number c.args.environment.now)) c.args.self.now.items.items }

pub loop-index-preserved : goal.loop-index-preserved
loop-index-preserved g c = record {
  written =
      map-set_same written_item c.loop-index.self.items.items c.loop-index.index c.number_variables.new.self c.index_mut.result.now (c.number_variables.ensures.written ∙ ap written_item c.index_mut.ensures.value)
      ∙ c.loop-index.invariant.written;
  numbered = one_more (IsNumberedItem (g.N.VariableNumbers.number c.args.numbers.now) (g.N.VariableNumbers.number c.args.environment.now)) _ c.loop-index.self.items.items c.loop-index.index c.index_mut.result.now c.number_variables.new.self c.loop-index.invariant.numbered (omega arith) c.index_mut.ensures.value c.number_variables.ensures;
}

pub returns-clause-written : goal.returns-clause-written
returns-clause-written g c = c.loop-index.invariant.written

pub returns-clause-numbered : goal.returns-clause-numbered
returns-clause-numbered g c =
    let so = c.loop-index.invariant.numbered in
    record {
      many = so.many;
      each = at_each (IsNumberedItem (g.N.VariableNumbers.number c.args.numbers.now) (g.N.VariableNumbers.number c.args.environment.now)) c.args.self.now.items.items c.loop-index.self.items.items
          (record { many = so.many; each = λ k d lt. so.each k d (omega (arith, lt)); left = λ k d le. so.left k d (omega (arith, le)) });
    }
