-- Each is numbered in its place.
use Rattle.std.proofs.Common.{ap, ◌∙◌, arith}
use Rattle.std.proofs.Math.Seq.{map-set_same}
use Rattle.std.proofs.lemmas.List.{length-set}
use Rattle.tree_items.specs.Lines.{pieces_of}
use Rattle.tree_items.specs.declared.line.Line.{Line}
use Rattle.resolve_references.specs.Said.{said_by}
use Rattle.resolve_references.specs.Seen.{seen_in_line}
use Rattle.resolve_references.proofs.Saying.{all_say}
use Rattle.resolve_references.proofs.Seeing.{each_more, each_whole}
use Rattle.resolve_references.proofs.numbering.number_body.Goals as goal

pub loop-index-preserved : goal.loop-index-preserved
loop-index-preserved c = record {
  many = length-set c.loop-index.body.items c.loop-index.index c.number_line.new.line ∙ c.loop-index.invariant.many;
  shapes = map-set_same pieces_of c.loop-index.body.items c.loop-index.index c.number_line.new.line c.index_mut.result.now (c.number_line.ensures.shape ∙ ap pieces_of c.index_mut.ensures.value) ∙ c.loop-index.invariant.shapes;
  said = λ seen. map-set_same (λ (x : Line). said_by (seen_in_line seen x)) c.loop-index.body.items c.loop-index.index c.number_line.new.line c.index_mut.result.now (c.number_line.ensures.said seen ∙ ap (λ (x : Line). said_by (seen_in_line seen x)) c.index_mut.ensures.value) ∙ c.loop-index.invariant.said seen;
  numbers = each_more _ _ seen_in_line c.loop-index.body.items c.loop-index.index c.number_line.new.line (omega arith) c.loop-index.invariant.numbers c.number_line.ensures.numbers;
}

pub returns-clause-numbers : goal.returns-clause-numbers
returns-clause-numbers c = each_whole _ _ seen_in_line c.loop-index.body.items (λ k d lt. c.loop-index.invariant.numbers k d (omega arith))

pub returns-clause-said : goal.returns-clause-said
returns-clause-said c = λ seen. all_say (seen_in_line seen) _ c.loop-index.body.items (c.loop-index.invariant.said seen)
