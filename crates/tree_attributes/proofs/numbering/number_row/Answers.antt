-- The expression that is put in is the one before with its numbers.
use Rattle.std.proofs.Common.{arith}
use Rattle.tree_expressions.specs.Numbering.{IsNumbered}
use Rattle.tree_attributes.proofs.Sets.InTurn.{none_yet, one_more, row_numbered}
use Rattle.tree_attributes.proofs.numbering.number_row.Goals as goal

pub loop-index-init : goal.loop-index-init
loop-index-init g c = none_yet (IsNumbered (g.N.VariableNumbers.number c.args.numbers.now)) c.args.expressions.now.items

pub loop-index-preserved : goal.loop-index-preserved
loop-index-preserved g c = one_more (IsNumbered (g.N.VariableNumbers.number c.args.numbers.now)) _ c.loop-index.expressions.items c.loop-index.index c.index_mut.result.now c.resolve_variables.new.self c.loop-index.invariant (omega arith) c.index_mut.ensures.value c.resolve_variables.ensures

pub returns : goal.returns
returns g c =
    let so = c.loop-index.invariant in
    row_numbered (g.N.VariableNumbers.number c.args.numbers.now) c.args.expressions.now.items c.loop-index.expressions.items
    (record { many = so.many; each = λ k d lt. so.each k d (omega (arith, lt)); left = λ k d le. so.left k d (omega (arith, le)) })
