-- Each is numbered in its place.
use Rattle.std.proofs.Common.{ap, sym, ◌∙◌, ◌∷◌, [], arith}
use Rattle.std.proofs.Math.Seq.{map-set_same}
use Rattle.std.proofs.lemmas.List.{length-set}
use Rattle.tree_expressions.specs.declared.expression.Expression.{Expression}
use Rattle.tree_expressions.specs.Shape.{shape_of}
use Rattle.resolve_references.specs.Said.{said_of}
use Rattle.resolve_references.specs.Seen.{seeing}
use Rattle.resolve_references.proofs.Saying.{expression_says, seen_row}
use Rattle.resolve_references.proofs.Seeing.{each_more, each_single}
use Rattle.resolve_references.proofs.numbering.number_row.Goals as goal

pub loop-index-preserved : goal.loop-index-preserved
loop-index-preserved c = record {
  many = length-set c.loop-index.expressions.items c.loop-index.index c.number_expression.new.expression ∙ c.loop-index.invariant.many;
  shapes = map-set_same shape_of c.loop-index.expressions.items c.loop-index.index c.number_expression.new.expression c.index_mut.result.now (c.number_expression.ensures.shape ∙ ap shape_of c.index_mut.ensures.value) ∙ c.loop-index.invariant.shapes;
  said = map-set_same said_of c.loop-index.expressions.items c.loop-index.index c.number_expression.new.expression c.index_mut.result.now (expression_says _ _ (c.number_expression.ensures.said []) ∙ ap said_of c.index_mut.ensures.value) ∙ c.loop-index.invariant.said;
  numbers = each_more _ _ (λ seen (e : Expression). seeing seen e ∷ []) c.loop-index.expressions.items c.loop-index.index c.number_expression.new.expression (omega arith) c.loop-index.invariant.numbers c.number_expression.ensures.numbers;
}

pub returns-clause-numbers : goal.returns-clause-numbers
returns-clause-numbers c = each_single _ _ seeing c.loop-index.expressions.items (λ k d lt. c.loop-index.invariant.numbers k d (omega arith))

pub returns-clause-said : goal.returns-clause-said
returns-clause-said c = λ seen. seen_row seen c.loop-index.expressions.items ∙ c.loop-index.invariant.said ∙ sym (seen_row seen _)
