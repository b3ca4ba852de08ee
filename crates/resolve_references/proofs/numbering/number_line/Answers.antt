-- Each is numbered in its place.
use Rattle.std.proofs.Common.{ap, ◌∙◌, arith}
use Rattle.std.proofs.Math.Seq.{map-set_same}
use Rattle.std.proofs.lemmas.List.{length-set}
use Rattle.tree_items.specs.Lines.{piece_of}
use Rattle.tree_items.specs.declared.line.Fragment.{Fragment}
use Rattle.resolve_references.specs.Said.{said_by}
use Rattle.resolve_references.specs.Seen.{seen_in_fragment}
use Rattle.resolve_references.proofs.Saying.{all_say}
use Rattle.resolve_references.proofs.Seeing.{each_more, each_whole}
use Rattle.resolve_references.proofs.numbering.number_line.Goals as goal

pub loop-index-preserved : goal.loop-index-preserved
loop-index-preserved c = record {
  many = length-set c.loop-index.line.fragments.items c.loop-index.index c.number_fragment.new.fragment ∙ c.loop-index.invariant.many;
  shapes = map-set_same piece_of c.loop-index.line.fragments.items c.loop-index.index c.number_fragment.new.fragment c.index_mut.result.now (c.number_fragment.ensures.shape ∙ ap piece_of c.index_mut.ensures.value) ∙ c.loop-index.invariant.shapes;
  said = λ seen. map-set_same (λ (x : Fragment). said_by (seen_in_fragment seen x)) c.loop-index.line.fragments.items c.loop-index.index c.number_fragment.new.fragment c.index_mut.result.now (c.number_fragment.ensures.said seen ∙ ap (λ (x : Fragment). said_by (seen_in_fragment seen x)) c.index_mut.ensures.value) ∙ c.loop-index.invariant.said seen;
  numbers = each_more _ _ seen_in_fragment c.loop-index.line.fragments.items c.loop-index.index c.number_fragment.new.fragment (omega arith) c.loop-index.invariant.numbers c.number_fragment.ensures.numbers;
}

pub returns-clause-numbers : goal.returns-clause-numbers
returns-clause-numbers c = each_whole _ _ seen_in_fragment c.loop-index.line.fragments.items (λ k d lt. c.loop-index.invariant.numbers k d (omega arith))

pub returns-clause-said : goal.returns-clause-said
returns-clause-said c = λ seen. all_say (seen_in_fragment seen) _ c.loop-index.line.fragments.items (c.loop-index.invariant.said seen)
